use Rattle.std.proofs.Common.{ℕ, ◌<◌}
use Rattle.kasa_pre.specs.Acts.{TouchesOpenAt}
use Rattle.kasa_pre.proofs.acting.acts_on_all.Given as goal

abbrev pub invariant-loop-n : goal.invariant-loop-n
invariant-loop-n l = (k : ℕ) → k < l.n → TouchesOpenAt l.rule k → ⊥
