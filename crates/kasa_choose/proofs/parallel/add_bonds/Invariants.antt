use Rattle.std.proofs.Common.{◌≡◌, take}
use Rattle.std.specs.List.{flat_map}
use Rattle.kasa_choose.specs.Kept.{keep_all}
use Rattle.kasa_choose.specs.Parallel.{two_bonds}
use Rattle.kasa_choose.proofs.parallel.add_bonds.Given as goal

abbrev pub invariant-loop-first : goal.invariant-loop-first
invariant-loop-first l = l.planned ≡ keep_all l.fn.planned (flat_map (λ first. flat_map (two_bonds l.agent l.x l.u first) l.seconds) (take l.first-index l.firsts))
