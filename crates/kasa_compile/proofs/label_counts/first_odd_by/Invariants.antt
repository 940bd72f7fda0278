use Rattle.std.proofs.Common.{◌≡◌, take, []}
use Rattle.std.specs.List.{flat_map}
use Rattle.kasa_compile.specs.Counts.{odd_by}
use Rattle.kasa_compile.proofs.label_counts.first_odd_by.Given as goal

abbrev pub invariant-loop-label : goal.invariant-loop-label
invariant-loop-label l = flat_map (odd_by l.counts) (take l.label-index l.labels) ≡ []
