use Rattle.std.proofs.Common.{◌≤◌, length}
use Rattle.kasa_digraph.specs.Graph.{successors}
use Rattle.kasa_digraph.specs.inner.Cycle.{AreAssigned}
use Rattle.kasa_digraph.proofs.cycle.components_of.Given as goal

abbrev pub invariant-places : goal.invariant-places
invariant-places l = record {
  low : l.k ≤ length l.order;
  assigned : AreAssigned (successors l.graph) (length l.graph) l.order l.k l.components.items;
}

abbrev pub decreases-places : goal.decreases-places
decreases-places l = l.k
