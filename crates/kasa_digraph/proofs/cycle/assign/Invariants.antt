use Rattle.std.proofs.Common.{◌<◌, ◌+◌, length}
use Rattle.kasa_digraph.specs.Graph.{successors}
use Rattle.kasa_digraph.specs.inner.Search.{IsFinishOrder}
use Rattle.kasa_digraph.specs.inner.Flood.{unknown}
use Rattle.kasa_digraph.specs.inner.Cycle.{IsFlooding}
use Rattle.kasa_digraph.proofs.cycle.assign.Given as goal

abbrev pub invariant-layers : goal.invariant-layers
invariant-layers l = record {
  flooding : (f : IsFinishOrder (successors l.graph) (length l.graph) l.order) (below : l.k < length l.order) →
      IsFlooding (successors l.graph) (length l.graph) l.order l.k (f.finished l.k below).before l.layer.items l.components;
}

abbrev pub decreases-layers : goal.decreases-layers
decreases-layers l = unknown l.components + length l.layer.items
