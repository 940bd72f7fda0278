use Rattle.std.proofs.Common.{◌≡◌, take}
use Rattle.std.specs.List.{flat_map}
use Rattle.kasa_choose.specs.Kept.{keep_all}
use Rattle.kasa_choose.specs.Parallel.{two_bonds}
use Rattle.kasa_choose.proofs.parallel.add_seconds.Given as goal

abbrev pub invariant-loop-second : goal.invariant-loop-second
invariant-loop-second l = l.planned ≡ keep_all l.fn.planned (flat_map (two_bonds l.agent l.x l.u l.first) (take l.second-index l.seconds))
