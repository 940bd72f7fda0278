use Rattle.std.proofs.Common.{ℕ, ◌<◌}
use Rattle.kasa_influence.specs.inner.Makes.{TestsWrittenAt}
use Rattle.kasa_influence.proofs.makes.meets_written.Given as goal

abbrev pub invariant-loop-site : goal.invariant-loop-site
invariant-loop-site g l = (s : ℕ) → s < l.site → ¬ TestsWrittenAt l.ask.rule l.v l.stand s
