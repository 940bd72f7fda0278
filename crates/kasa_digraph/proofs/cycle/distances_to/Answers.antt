use Rattle.std.proofs.Common.{◌≡◌, ◌<◌, ◌+◌, ◌∷◌, ◌++◌, [], ℕ, List, true, set, take, drop, replicate, length, arith, rules, sym, ap, subst, ◌∙◌}
use Rattle.std.proofs.lemmas.List.{take_at}
use Rattle.kasa_digraph.specs.Graph.{has, successors, IsEdge, IsGraph}
use Rattle.kasa_digraph.specs.inner.Flood.{far, IsSpread}
use Rattle.kasa_digraph.specs.inner.Cycle.{AreNear}
use Rattle.kasa_digraph.proofs.Flooding.{edge_from}
use Rattle.kasa_digraph.proofs.Distances.{near_begins, near_more}
use Rattle.kasa_digraph.proofs.cycle.distances_to.Goals as goal

pub layers-init : goal.layers-init
layers-init c =
    let graph : IsGraph (successors c.args.graph.now) (length c.args.graph.now) = λ p q e. let h = edge_from c.args.back.now q p (c.requires.reverse.back_to p q e) in omega (arith, h, c.requires.size) in
    let distances : c.in_ok-distances.distances.items ≡ replicate (length c.args.graph.now) far = search rules in
    let layer : c.push.new.self.items ≡ c.args.s ∷ [] = c.in_ok-push.ensures.items ∙ ap (λ (xs : List ℕ). xs ++ c.args.s ∷ []) c.new-layer.ensures.items in
    let begins = near_begins (successors c.args.graph.now) (length c.args.graph.now) c.args.s graph c.requires.start in
    record {
      near = subst (λ (xs : List ℕ). AreNear (successors c.args.graph.now) (length c.args.graph.now) c.args.s xs 0 (set c.in_ok-distances.distances.items c.args.s 0)) (sym layer)
          (subst (λ (ds : List ℕ). AreNear (successors c.args.graph.now) (length c.args.graph.now) c.args.s (c.args.s ∷ []) 0 (set ds c.args.s 0)) (sym distances) begins);
    }

pub layers-preserved : goal.layers-preserved
layers-preserved c =
    let new = c.next_layer.new.labels in
    let before = c.layers.distances.items in
    let from : IsSpread (λ y. (x : ℕ) × (has c.layers.layer.items x ≡ true) × IsEdge (successors c.args.back.now) x y) (c.layers.d + 1) before new [] c.in_ok-layer.layer.items =
    subst (λ (ds : List ℕ). IsSpread (λ y. (x : ℕ) × (has c.layers.layer.items x ≡ true) × IsEdge (successors c.args.back.now) x y) (c.layers.d + 1) ds new [] c.in_ok-layer.layer.items) c.as_mut_slice.ensures.value
    (subst (λ (qs : List ℕ). IsSpread (λ y. (x : ℕ) × (has qs x ≡ true) × IsEdge (successors c.args.back.now) x y) (c.layers.d + 1) c.as_mut_slice.result.now new [] c.in_ok-layer.layer.items) c.as_slice.ensures.value c.in_ok-layer.ensures) in
    let some : 0 < length c.layers.layer.items = search rules in
    let size = from.size in
    let whole : take c.layers.distances.len (new ++ drop (length new) before) ≡ new = take_at new (drop (length new) before) c.layers.distances.len (omega (arith, size)) in
    record {
      near = subst (λ (ds : List ℕ). AreNear (successors c.args.graph.now) (length c.args.graph.now) c.args.s c.in_ok-layer.layer.items (c.layers.d + 1) ds) (sym whole)
          (near_more (successors c.args.graph.now) (successors c.args.back.now) (length c.args.graph.now) c.args.s c.requires.reverse c.layers.layer.items c.in_ok-layer.layer.items c.layers.d before new
          c.requires.few some c.layers.invariant.near from);
    }
