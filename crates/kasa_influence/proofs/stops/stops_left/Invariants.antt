use Rattle.std.proofs.Common.{ℕ, ◌<◌}
use Rattle.kasa_influence.specs.inner.Stops.{StopsLeft}
use Rattle.kasa_influence.proofs.stops.stops_left.Given as goal

abbrev pub invariant-loop-n : goal.invariant-loop-n
invariant-loop-n g l = (k : ℕ) → k < l.n → ¬ StopsLeft l.ask l.target k
