-- Left nodes, their types and the ends of their bonds.
use Rattle.std.proofs.Common.{◌≡◌, ℕ, ◌<◌, ◌⊎◌, inl, inr, ◌↔◌, Bool, true, false, List, length, refl, sym, ◌∙◌}
use Rattle.std.specs.Prelude.{Some}
use Rattle.kasa_graph.specs.declared.pattern.Node.{Node}
use Rattle.kasa_graph.specs.declared.pattern.LinkTest.TheVariants.{Any, To}
use Rattle.kasa_graph.specs.declared.pattern.SiteTests.{SiteTests}
use Rattle.kasa_graph.specs.declared.pattern.StateTest.TheVariants as state
use Rattle.kasa_graph.specs.Pattern.{site_at, link_test, state_test, agent_at, IsPattern}
use Rattle.kasa_graph.proofs.PatternLemmas.{node_bound}
use Rattle.kasa_graph.proofs.ShapeLemmas.{site_or_any}
use Rattle.kasa_rules.specs.Rule.{RuleParts}
use Rattle.kasa_choose.specs.Across.{type_of}

-- two tests of the same fact
pub same_test : (b c : Bool) (P : Type 0) → b ≡ true ↔ P → c ≡ true ↔ P → b ≡ c
same_test true true P p q = refl
same_test true false P p q = sym (q.1 (p.0 refl))
same_test false true P p q = p.1 (q.0 refl)
same_test false false P p q = refl

pub typed : (r : RuleParts) (n a : ℕ) → agent_at r.left n ≡ Some a → type_of r n ≡ a
typed r n a is = rw is refl

-- a bond's far end is a left node
pub partner_bound : (g : List Node) (n s m t : ℕ) → IsPattern g → link_test g n s ≡ To m t → m < length g
partner_bound g n s m t is bond = by (site_or_any g m t)
  where
    back : link_test g m t ≡ To n s
    back = is.both_ways n s m t bond

    by : ((x : SiteTests) × (site_at g m t ≡ Some x)) ⊎ ((state_test g m t ≡ state.Any) × (link_test g m t ≡ Any)) → m < length g
    by (inl at) = node_bound g m t (rw at.1 refl)
    by (inr none) = absurd (let both : Any ≡ To n s = sym none.1 ∙ back in cc)
