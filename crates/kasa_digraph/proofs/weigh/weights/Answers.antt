use Rattle.std.proofs.Common.{◌≡◌, ◌<◌, ◌≤◌, ◌+◌, ◌^◌, ℕ, List, min, sum, length, get_or, replicate, refl, sym, ap, ◌∙◌, arith, rules}
use Rattle.std.specs.Prelude.{slice_index}
use Rattle.std.proofs.lemmas.List.{length-set}
use Rattle.kasa_digraph.specs.Graph.{successors}
use Rattle.kasa_digraph.specs.inner.Weigh.{shares_of}
use Rattle.kasa_digraph.proofs.Lists.{in_at, in_take}
use Rattle.kasa_digraph.proofs.Searching.{edge_at, successors_at}
use Rattle.kasa_digraph.proofs.Weighing.{weigh_none, weigh_more, few_zeros, few_set}
use Rattle.kasa_digraph.proofs.weigh.weights.Goals as goal

pub loop-p-init : goal.loop-p-init
loop-p-init c =
    let zeros : c.in_ok-values.values.items ≡ replicate (length c.args.graph.now) 0 = search rules in
    record {
      size = search rules;
      few = λ z. few_zeros (length c.args.graph.now) z c.in_ok-values.values.items zeros;
      weighed = weigh_none _ _ _ _;
    }

pub bounds-graph-at : goal.bounds-graph-at
bounds-graph-at c = c.requires.order.within _ (in_at c.args.order.now c.loop-p.p-index c.loop-p-test.true)

pub bounds-counts-at : goal.bounds-counts-at
bounds-counts-at c = let h = c.requires.order.within _ (in_at c.args.order.now c.loop-p.p-index c.loop-p-test.true) in omega (arith, h, c.requires.counted)

pub weight_from-requires-clause-grouped : goal.weight_from-requires-clause-grouped
weight_from-requires-clause-grouped c q h =
    let within : get_or c.args.order.now c.loop-p.p-index 0 < length c.args.graph.now = c.requires.order.within _ (in_at c.args.order.now c.loop-p.p-index c.loop-p-test.true) in
    let e = edge_at c.args.graph.now _ c.index-graph-at.result _ within c.index-graph-at.is c.as_slice.ensures.value q h in
    let below = c.requires.order.within q (in_take c.loop-p.p-index c.args.order.now q (c.requires.order.after c.loop-p.p-index q c.loop-p-test.true e)) in
    omega (arith, below, c.requires.grouped)

pub weight_from-requires-clause-valued : goal.weight_from-requires-clause-valued
weight_from-requires-clause-valued c q h =
    let within : get_or c.args.order.now c.loop-p.p-index 0 < length c.args.graph.now = c.requires.order.within _ (in_at c.args.order.now c.loop-p.p-index c.loop-p-test.true) in
    let e = edge_at c.args.graph.now _ c.index-graph-at.result _ within c.index-graph-at.is c.as_slice.ensures.value q h in
    let below = c.requires.order.within q (in_take c.loop-p.p-index c.args.order.now q (c.requires.order.after c.loop-p.p-index q c.loop-p-test.true e)) in
    omega (arith, below, c.loop-p.invariant.size, c.as_slice-in-loop-p.ensures)

pub weight_from-requires-clause-counted : goal.weight_from-requires-clause-counted
weight_from-requires-clause-counted c q h =
    let within : get_or c.args.order.now c.loop-p.p-index 0 < length c.args.graph.now = c.requires.order.within _ (in_at c.args.order.now c.loop-p.p-index c.loop-p-test.true) in
    c.requires.within _ q (edge_at c.args.graph.now _ c.index-graph-at.result _ within c.index-graph-at.is c.as_slice.ensures.value q h)

pub index_mut-requires : goal.index_mut-requires
index_mut-requires c =
    let h = c.requires.order.within _ (in_at c.args.order.now c.loop-p.p-index c.loop-p-test.true) in omega (arith, h, c.loop-p.invariant.size)

pub loop-p-preserved : goal.loop-p-preserved
loop-p-preserved c =
    let p = get_or c.args.order.now c.loop-p.p-index 0 in
    let values = c.loop-p.values.items in
    let group = slice_index c.args.group.now in
    let count = slice_index c.args.counts.now p in
    let within : p < length c.args.graph.now = c.requires.order.within _ (in_at c.args.order.now c.loop-p.p-index c.loop-p-test.true) in
    let below : p < length values = omega (arith, within, c.loop-p.invariant.size) in
    let is : c.in_ok-value.value ≡ min (1 + sum (shares_of group (λ q. get_or values q 0) count (successors c.args.graph.now p))) (2 ^ 64) =
    c.in_ok-value.ensures
    ∙ ap (λ (vs : List ℕ). min (1 + sum (shares_of group (slice_index vs) count c.as_slice.result.now)) (2 ^ 64)) c.as_slice-in-loop-p.ensures.value
    ∙ ap (λ (qs : List ℕ). min (1 + sum (shares_of group (slice_index values) count qs)) (2 ^ 64))
    (c.as_slice.ensures.value ∙ sym (successors_at c.args.graph.now p c.index-graph-at.result within c.index-graph-at.is)) in
    let few : c.in_ok-value.value ≤ 2 ^ 64 = omega (arith, is) in
    record {
      size = length-set values p c.in_ok-value.value ∙ c.loop-p.invariant.size;
      few = few_set values p c.in_ok-value.value below few c.loop-p.invariant.few;
      weighed = weigh_more _ _ group (slice_index c.args.counts.now) c.args.order.now values c.loop-p.p-index p c.in_ok-value.value c.requires.order c.loop-p-test.true refl below is c.loop-p.invariant.weighed;
    }
