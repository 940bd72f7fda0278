use Rattle.std.proofs.Common.{take}
use Rattle.kasa_compile.specs.Counts.{AreCountsOf}
use Rattle.kasa_compile.proofs.label_counts.Counts.of.Given as goal

abbrev pub invariant-loop-label : goal.invariant-loop-label
invariant-loop-label l = AreCountsOf (take l.label-index l.labels) l.items.entries
