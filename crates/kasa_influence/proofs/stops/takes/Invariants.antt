use Rattle.std.proofs.Common.{ℕ, ◌<◌}
use Rattle.kasa_influence.specs.inner.Stops.{TakesAt}
use Rattle.kasa_influence.proofs.stops.takes.Given as goal

abbrev pub invariant-loop-site : goal.invariant-loop-site
invariant-loop-site g l = (s : ℕ) → s < l.site → ¬ TakesAt l.ask l.v l.g l.place s
