use Rattle.std.proofs.Common.{◌≡◌, take}
use Rattle.std.specs.List.{flat_map}
use Rattle.kasa_compile.specs.Labels.{labels_in, standing}
use Rattle.kasa_compile.proofs.label_counts.first_odd_of_items.Given as goal

abbrev pub invariant-loop-item : goal.invariant-loop-item
invariant-loop-item l = l.labels.items ≡ flat_map (labels_in l.side) (standing l.side (take l.item-index l.items))
