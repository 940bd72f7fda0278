use Rattle.std.proofs.Common.{◌≡◌, map, take}
use Rattle.kasa_graph.specs.Pattern.{blank_node}
use Rattle.kasa_families.specs.Family.{shape_of}
use Rattle.kasa_families.proofs.patterns.shape_root.Given as goal

abbrev pub invariant-loop-n : goal.invariant-loop-n
invariant-loop-n l = l.g ≡ map (blank_node l.sig) (take l.n (shape_of l.family).types)
