use Rattle.std.proofs.Common.{◌≡◌}
use Rattle.kasa_families.specs.Spot.{nodes_of}
use Rattle.kasa_pre.proofs.SpotPlaces.{AlongRoot}
use Rattle.kasa_pre.proofs.spots.spot_from.Given as goal

abbrev pub invariant-loop-k : goal.invariant-loop-k
invariant-loop-k l = AlongRoot l.g l.family l.fn.node l.k (nodes_of l.place)
