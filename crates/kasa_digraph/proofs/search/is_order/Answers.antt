use Rattle.std.proofs.Common.{◌≡◌, ◌<◌, ℕ, List, Bool, true, false, length, take, get_or, set, sym, subst, ◌∙◌, arith, inl, inr}
use Rattle.std.proofs.lemmas.Bool.{cases_lt}
use Rattle.std.proofs.lemmas.List.{length-set}
use Rattle.kasa_digraph.specs.Graph.{has, successors, IsEdge}
use Rattle.kasa_digraph.specs.inner.Search.{is_seen}
use Rattle.kasa_digraph.proofs.Lists.{true_false, is_false, in_at, taken_back, taken_kept, taken_here}
use Rattle.kasa_digraph.proofs.Searching.{edge_at, at_edge, seen_here, seen_kept, seen_back}
use Rattle.kasa_digraph.proofs.Orders.{back_edge_cycle}
use Rattle.kasa_digraph.proofs.search.is_order.Goals as goal

pub bounds-graph-at : goal.bounds-graph-at
bounds-graph-at c = c.requires.order.within _ (in_at c.args.order.now c.loop-p.p-index c.loop-p-test.true)

pub are_done-requires : goal.are_done-requires
are_done-requires c q h =
    let within : get_or c.args.order.now c.loop-p.p-index 0 < length c.args.graph.now = c.requires.order.within _ (in_at c.args.order.now c.loop-p.p-index c.loop-p-test.true) in
    let below = c.requires.graph _ q (edge_at c.args.graph.now _ c.index-graph-at.result _ within c.index-graph-at.is c.as_slice.ensures.value q h) in
    omega (arith, below, c.loop-p.invariant.size, c.as_slice-in-loop-p.ensures)

pub returns-then-not-are_done-clause-no : goal.returns-then-not-are_done-clause-no
returns-then-not-are_done-clause-no c _ =
    let at : c.loop-p.p-index < length c.args.order.now = c.loop-p-test.true in
    let within : get_or c.args.order.now c.loop-p.p-index 0 < length c.args.graph.now = c.requires.order.within _ (in_at c.args.order.now c.loop-p.p-index c.loop-p-test.true) in
    let found = c.are_done.ensures.no c.if-not-are_done.true in
    back_edge_cycle _ _ c.args.order.now c.requires.graph c.requires.order c.loop-p.p-index found.0 at
    (edge_at c.args.graph.now _ c.index-graph-at.result _ within c.index-graph-at.is c.as_slice.ensures.value found.0 found.1)
    (is_false (has (take c.loop-p.p-index c.args.order.now) found.0) (λ h. true_false (sym (c.loop-p.invariant.all found.0 h) ∙ subst (λ (bs : List Bool). is_seen bs found.0 ≡ false) c.as_slice-in-loop-p.ensures.value found.2)))

pub index_mut-requires : goal.index_mut-requires
index_mut-requires c =
    let within : get_or c.args.order.now c.loop-p.p-index 0 < length c.args.graph.now = c.requires.order.within _ (in_at c.args.order.now c.loop-p.p-index c.loop-p-test.true) in
    omega (arith, within, c.loop-p.invariant.size)

pub loop-p-preserved : goal.loop-p-preserved
loop-p-preserved c =
    let at : c.loop-p.p-index < length c.args.order.now = c.loop-p-test.true in
    let p = get_or c.args.order.now c.loop-p.p-index 0 in
    let within : p < length c.args.graph.now = c.requires.order.within _ (in_at c.args.order.now c.loop-p.p-index c.loop-p-test.true) in
    let below : p < length c.loop-p.done.items = omega (arith, within, c.loop-p.invariant.size) in
    record {
      size = length-set c.loop-p.done.items p true ∙ c.loop-p.invariant.size;
      done = λ x e. elim (seen_back c.loop-p.done.items p x e) [
        | inl old ↦ taken_kept c.args.order.now c.loop-p.p-index x at (c.loop-p.invariant.done x old)
        | inr is ↦ taken_here c.args.order.now c.loop-p.p-index x at is
      ];
      all = λ x h. elim (taken_back c.args.order.now c.loop-p.p-index x at h) [
        | inl old ↦ seen_kept c.loop-p.done.items p x below (c.loop-p.invariant.all x old)
        | inr is ↦ (let P : ℕ → Type 0 = λ z. is_seen (set c.loop-p.done.items p true) z ≡ true in subst P (sym is) (seen_here c.loop-p.done.items p below))
      ];
      after = λ k q h e. elim (cases_lt k c.loop-p.p-index) [
        | inl old ↦ c.loop-p.invariant.after k q old e
        | inr now ↦ (let is : k ≡ c.loop-p.p-index = omega (arith, h, now) in
            let P : ℕ → Type 0 = λ i. IsEdge (successors c.args.graph.now) (get_or c.args.order.now i 0) q in
            let e = subst P is e in
            let h = c.are_done.ensures.yes c.if-not-are_done.false q (at_edge c.args.graph.now p c.index-graph-at.result _ within c.index-graph-at.is c.as_slice.ensures.value q e) in
            let h = subst (λ (bs : List Bool). is_seen bs q ≡ true) c.as_slice-in-loop-p.ensures.value h in
            let Q : ℕ → Type 0 = λ i. has (take i c.args.order.now) q ≡ true in
            subst Q (sym is) (c.loop-p.invariant.done q h))
      ];
    }
