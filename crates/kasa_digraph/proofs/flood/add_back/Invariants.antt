use Rattle.std.proofs.Common.{◌≡◌, ◌⊎◌, ℕ, true, take, length}
use Rattle.kasa_digraph.specs.Graph.{has, successors, IsEdge}
use Rattle.kasa_digraph.proofs.flood.add_back.Given as goal

abbrev pub invariant-loop-q : goal.invariant-loop-q
invariant-loop-q l = record {
  size : length l.back.items ≡ length l.fn.back.items;
  «from» : (q x : ℕ) → IsEdge (successors l.back.items) q x → (IsEdge (successors l.fn.back.items) q x) ⊎ ((x ≡ l.p) × (has (take l.q-index l.points) q ≡ true));
  kept : (q x : ℕ) → IsEdge (successors l.fn.back.items) q x → IsEdge (successors l.back.items) q x;
  added : (q : ℕ) → has (take l.q-index l.points) q ≡ true → IsEdge (successors l.back.items) q l.p;
}
