use Rattle.std.proofs.Common.{◌≡◌, ◌<◌, ℕ, true, length, take, get_or}
use Rattle.kasa_digraph.specs.Graph.{has, successors, IsEdge}
use Rattle.kasa_digraph.specs.inner.Search.{is_seen}
use Rattle.kasa_digraph.proofs.search.is_order.Given as goal

abbrev pub invariant-loop-p : goal.invariant-loop-p
invariant-loop-p l = record {
  size : length l.done.items ≡ length l.graph;
  done : (x : ℕ) → is_seen l.done.items x ≡ true → has (take l.p-index l.order) x ≡ true;
  all : (x : ℕ) → has (take l.p-index l.order) x ≡ true → is_seen l.done.items x ≡ true;
  after : (k q : ℕ) → k < l.p-index → IsEdge (successors l.graph) (get_or l.order k 0) q → has (take k l.order) q ≡ true;
}
