use Rattle.std.proofs.Common.{ℕ, ◌<◌}
use Rattle.kasa_rules.specs.Draft.{IsHalfBond}
use Rattle.kasa_rules.proofs.draft.RuleDraft.half_bond.Given as goal

abbrev pub invariant-loop-n : goal.invariant-loop-n
invariant-loop-n l = (k s : ℕ) → k < l.n → ¬ IsHalfBond l.self k s
