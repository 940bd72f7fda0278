use Rattle.std.proofs.Common.{length}
use Rattle.kasa_digraph.specs.Graph.{successors}
use Rattle.kasa_digraph.specs.inner.Search.{IsSearch, work}
use Rattle.kasa_digraph.proofs.search.finish_order.Given as goal

abbrev pub invariant-loop-task : goal.invariant-loop-task
invariant-loop-task l = record {
  search : IsSearch (successors l.graph) (length l.graph) l.seen.items l.tasks.items l.order.items;
}

abbrev pub decreases-loop-task : goal.decreases-loop-task
decreases-loop-task l = work l.seen.items l.tasks.items
