use Rattle.std.proofs.Common.{ℕ, ◌<◌}
use Rattle.kasa_influence.specs.inner.Stops.{BreaksAt}
use Rattle.kasa_influence.proofs.stops.is_broken.Given as goal

abbrev pub invariant-loop-site : goal.invariant-loop-site
invariant-loop-site g l = (s : ℕ) → s < l.site → ¬ BreaksAt l.ask.rule l.target l.n s
