use Rattle.std.proofs.Common.{◌≡◌, ℕ, length, subst, inl, inr, arith}
use Rattle.kasa_lists.proofs.Numbers.{same_or_not}
use Rattle.kasa_rules.specs.Draft.{IsHalfBond}
use Rattle.kasa_rules.proofs.DraftLemmas.{HasWholeBonds-none, half_within}
use Rattle.kasa_rules.proofs.draft.RuleDraft.half_bond.Goals as goal

pub returns-in-Some-clause-first : goal.returns-in-Some-clause-first
returns-in-Some-clause-first c = λ n s before half.
    elim before [
      | inl less ↦ c.loop-n.invariant n s less half
      | inr same ↦ c.in-Some.ensures.first s same.1 (subst (λ (k : ℕ). IsHalfBond c.args.self.now k s) same.0 half)
    ]

pub loop-n-preserved : goal.loop-n-preserved
loop-n-preserved c = λ k s below half.
    elim (same_or_not k c.loop-n.n) [
      | inl same ↦ c.in_default.ensures.none s (subst (λ (j : ℕ). IsHalfBond c.args.self.now j s) same half)
      | inr other ↦ c.loop-n.invariant k s (omega arith) half
    ]

pub returns-clause-none : goal.returns-clause-none
returns-clause-none c =
    HasWholeBonds-none c.args.self.now (rw c.self.view_is at c.self.invariant).0.left
    (λ n s half.
    let within = half_within c.args.self.now n s half in
    let same : length c.args.self.now.left ≡ length c.self.inside.left = rw (← c.self.view_is) in
    c.loop-n.invariant n s (omega arith) half)
