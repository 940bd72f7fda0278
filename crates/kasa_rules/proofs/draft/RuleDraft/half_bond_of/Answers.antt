use Rattle.std.proofs.Common.{ℕ, subst, inl, inr, arith}
use Rattle.kasa_lists.proofs.Numbers.{same_or_not}
use Rattle.kasa_rules.specs.Draft.{IsHalfBond}
use Rattle.kasa_rules.proofs.DraftLemmas.{half_site}
use Rattle.kasa_rules.proofs.draft.RuleDraft.half_bond_of.Goals as goal

pub loop-s-preserved : goal.loop-s-preserved
loop-s-preserved c = λ t below half.
    elim (same_or_not t c.loop-s.s) [
      | inl same ↦ let yes = c.is_half.ensures.1 (subst (λ (k : ℕ). IsHalfBond c.args.self.now c.args.node k) same half) in let not = c.if-is_half.false in cc
      | inr other ↦ c.loop-s.invariant t (omega arith) half
    ]

pub returns-clause-none : goal.returns-clause-none
returns-clause-none c = λ t half.
    let within = (c.sites-s-end.ensures.count t).1 (half_site c.args.self.now c.args.node t half) in
    c.loop-s.invariant t (omega arith) half
