use Rattle.std.proofs.Common.{◌≡◌, ◌++◌, ◌∷◌, [], ℕ, List, true, get_or, set, length, arith, rules, sym, ap, subst, ◌∙◌}
use Rattle.std.proofs.lemmas.List.{nil_from_length}
use Rattle.kasa_digraph.specs.Graph.{has, successors, IsEdge}
use Rattle.kasa_digraph.specs.inner.Flood.{IsSpread}
use Rattle.kasa_digraph.specs.inner.Cycle.{IsFlooding}
use Rattle.kasa_digraph.proofs.Lists.{in_at}
use Rattle.kasa_digraph.proofs.Flooding.{edge_from}
use Rattle.kasa_digraph.proofs.Components.{assign_begins, assign_more, assign_ends}
use Rattle.kasa_digraph.proofs.cycle.assign.Goals as goal

pub bounds-components-at : goal.bounds-components-at
bounds-components-at c = let h = c.requires.order.within _ (in_at c.args.order.now c.args.k c.requires.place) in omega (arith, h, c.requires.above.size)

pub layers-init : goal.layers-init
layers-init c =
    let layer : c.push.new.self.items ≡ get_or c.args.order.now c.args.k 0 ∷ [] =
    c.in_ok-push.ensures.items ∙ ap (λ (xs : List ℕ). xs ++ get_or c.args.order.now c.args.k 0 ∷ []) c.new-layer.ensures.items in
    record {
      flooding = λ f below.
          subst (λ (xs : List ℕ). IsFlooding (successors c.args.graph.now) (length c.args.graph.now) c.args.order.now c.args.k (f.finished c.args.k below).before xs
          (set c.args.components.now (get_or c.args.order.now c.args.k 0) c.args.k)) (sym layer)
          (assign_begins (successors c.args.graph.now) (length c.args.graph.now) c.args.order.now f (edge_from c.args.graph.now) c.args.k below c.requires.label
          c.args.components.now c.if-components-at.false c.requires.above);
    }

pub next_layer-requires-clause-within : goal.next_layer-requires-clause-within
next_layer-requires-clause-within c x h =
    let fl = c.layers.invariant.flooding c.requires.order c.requires.place in
    let w = fl.within x (subst (λ (xs : List ℕ). has xs x ≡ true) c.as_slice.ensures.value h) in
    omega (arith, w, c.requires.size)

pub layers-preserved : goal.layers-preserved
layers-preserved c =
    let from : IsSpread (λ y. (x : ℕ) × (has c.layers.layer.items x ≡ true) × IsEdge (successors c.args.back.now) x y) c.args.k c.layers.components c.next_layer.new.labels [] c.in_ok-layer.layer.items =
    subst (λ (qs : List ℕ). IsSpread (λ y. (x : ℕ) × (has qs x ≡ true) × IsEdge (successors c.args.back.now) x y) c.args.k c.layers.components c.next_layer.new.labels [] c.in_ok-layer.layer.items)
    c.as_slice.ensures.value c.in_ok-layer.ensures in
    record {
      flooding = λ f below.
          assign_more (successors c.args.graph.now) (length c.args.graph.now) c.args.order.now f (edge_from c.args.graph.now) c.args.k below c.requires.label
          (successors c.args.back.now) c.requires.reverse c.layers.layer.items c.in_ok-layer.layer.items c.layers.components c.next_layer.new.labels (c.layers.invariant.flooding f below) from;
    }

pub returns : goal.returns
returns c =
    let empty : length c.layers.layer.items ≡ 0 = search rules in
    let none = nil_from_length c.layers.layer.items empty in
    assign_ends (successors c.args.graph.now) (length c.args.graph.now) c.args.order.now c.requires.order (edge_from c.args.graph.now) c.args.k _ c.layers.layer.items c.layers.components none
    (c.layers.invariant.flooding c.requires.order c.requires.place)
