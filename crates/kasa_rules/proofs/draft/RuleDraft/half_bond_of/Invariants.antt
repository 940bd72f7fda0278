use Rattle.std.proofs.Common.{ℕ, ◌<◌}
use Rattle.kasa_rules.specs.Draft.{IsHalfBond}
use Rattle.kasa_rules.proofs.draft.RuleDraft.half_bond_of.Given as goal

abbrev pub invariant-loop-s : goal.invariant-loop-s
invariant-loop-s l = (t : ℕ) → t < l.s → ¬ IsHalfBond l.self l.node t
