use Rattle.std.proofs.Common.{◌≡◌, ◌<◌, ℕ, false, length}
use Rattle.kasa_digraph.specs.Graph.{has, successors, IsEdge}
use Rattle.kasa_digraph.proofs.flood.reversed.Given as goal

abbrev pub invariant-loop : goal.invariant-loop
invariant-loop l = record {
  size : length l.back.items ≡ l.index;
  none : (q x : ℕ) → has (successors l.back.items q) x ≡ false;
}

abbrev pub invariant-loop-p : goal.invariant-loop-p
invariant-loop-p l = record {
  size : length l.back.items ≡ length l.graph;
  back : (p q : ℕ) → p < l.p → IsEdge (successors l.graph) p q → IsEdge (successors l.back.items) q p;
  only : (p q : ℕ) → IsEdge (successors l.back.items) q p → IsEdge (successors l.graph) p q;
}
