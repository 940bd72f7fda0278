use Rattle.std.proofs.Common.{◌≡◌, true, take}
use Rattle.kasa_digraph.specs.Graph.{has}
use Rattle.kasa_digraph.specs.inner.Flood.{IsSpread}
use Rattle.kasa_digraph.proofs.flood.spread.Given as goal

abbrev pub invariant-loop-y : goal.invariant-loop-y
invariant-loop-y l = record {
  spread : IsSpread (λ y. has (take l.y-index l.points) y ≡ true) l.label l.fn.labels l.labels l.fn.found.items l.found.items;
}
