use Rattle.std.proofs.Common.{◌↔◌, ◌⊎◌, inl, inr, Bool, true, false, not, refl, ◌∙◌}
use Rattle.std.specs.Prelude.{IsTrue}
use Rattle.kasa_influence.proofs.stops.may_miss.Goals as goal

unless_met : {P Q : Type 0} (yes : Bool) → ¬ P → IsTrue yes ↔ Q → IsTrue (not yes) ↔ (P ⊎ (¬ Q))
unless_met true none tells = (λ no. absurd cc, λ either. elim either [ inl p ↦ absurd (none p) | inr against ↦ absurd (against (tells.0 refl)) ])
unless_met false none tells = (λ no. inr (λ q. let yes = tells.1 q in cc), λ either. refl)

pub returns-else-is_bond : goal.returns-else-is_bond
returns-else-is_bond c =
    rw (← c.target.view_is)
    (unless_met c.meets.result
    (λ (m, t, is). let yes = c.is_bond.ensures.1 (m, t, c.link.ensures ∙ is) in let no = c.if-is_bond.false in cc)
    (rw c.link-else-is_bond.ensures at (c.meets.ensures c.args.n)))
