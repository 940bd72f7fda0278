use Rattle.std.proofs.Common.{◌+◌, length}
use Rattle.kasa_digraph.specs.Graph.{successors}
use Rattle.kasa_digraph.specs.inner.Flood.{unknown}
use Rattle.kasa_digraph.specs.inner.Cycle.{AreNear}
use Rattle.kasa_digraph.proofs.cycle.distances_to.Given as goal

abbrev pub invariant-layers : goal.invariant-layers
invariant-layers l = record {
  near : AreNear (successors l.graph) (length l.graph) l.s l.layer.items l.d l.distances.items;
}

abbrev pub decreases-layers : goal.decreases-layers
decreases-layers l = unknown l.distances.items + length l.layer.items
