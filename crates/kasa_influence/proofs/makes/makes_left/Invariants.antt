use Rattle.std.proofs.Common.{ℕ, ◌<◌}
use Rattle.kasa_influence.specs.inner.Makes.{MakesLeft}
use Rattle.kasa_influence.proofs.makes.makes_left.Given as goal

abbrev pub invariant-loop-n : goal.invariant-loop-n
invariant-loop-n g l = (k : ℕ) → k < l.n → ¬ MakesLeft l.ask l.v k
