use Rattle.std.proofs.Common.{◌≡◌, ℕ, [], true, take}
use Rattle.kasa_digraph.specs.Graph.{has, successors, IsEdge}
use Rattle.kasa_digraph.specs.inner.Flood.{IsSpread}
use Rattle.kasa_digraph.proofs.flood.next_layer.Given as goal

abbrev pub invariant-loop-x : goal.invariant-loop-x
invariant-loop-x l = record {
  spread : IsSpread (λ y. (x : ℕ) × (has (take l.x-index l.layer) x ≡ true) × IsEdge (successors l.graph) x y) l.label l.fn.labels l.labels [] l.found.items;
}
