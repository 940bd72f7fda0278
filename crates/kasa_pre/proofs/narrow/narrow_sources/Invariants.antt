use Rattle.std.proofs.Common.{ℕ, ◌<◌}
use Rattle.kasa_pre.specs.Narrow.{IsNarrowed}
use Rattle.kasa_pre.proofs.AskedLoops.{SourceBelow}
use Rattle.kasa_pre.proofs.narrow.narrow_sources.Given as goal

abbrev pub invariant-loop-f : goal.invariant-loop-f
invariant-loop-f l = IsNarrowed l.fn.asked.sig.now l.fn.g (λ h. (k : ℕ) → k < l.f-index → SourceBelow l.fn.asked.rule.now l.fn.asked.stands.now l.f-items k h) l.g
