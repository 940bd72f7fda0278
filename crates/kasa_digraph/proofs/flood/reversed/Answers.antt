use Rattle.std.proofs.Common.{◌≡◌, ◌+◌, ℕ, List, length, arith, sym, ap, subst, ◌∙◌, inl, inr}
use Rattle.std.proofs.lemmas.Bool.{cases_lt}
use Rattle.std.proofs.lemmas.List.{length_push}
use Rattle.kasa_digraph.specs.Graph.{has, successors, IsEdge}
use Rattle.kasa_digraph.proofs.Searching.{edge_at, at_edge}
use Rattle.kasa_digraph.proofs.Flooding.{successors_push, edge_from}
use Rattle.kasa_digraph.proofs.flood.reversed.Goals as goal

pub loop-preserved : goal.loop-preserved
loop-preserved c = record {
  size = ap length c.in_ok-push.ensures.items ∙ length_push c.loop.back.items c.new.result ∙ ap (λ (n : ℕ). n + 1) c.loop.invariant.size;
  none = λ q x. ap (λ (g : List _). has (successors g q) x) c.in_ok-push.ensures.items
      ∙ ap (λ (xs : List ℕ). has xs x) (successors_push c.loop.back.items c.new.result q c.new.ensures.items) ∙ c.loop.invariant.none q x;
}

pub add_back-requires : goal.add_back-requires
add_back-requires c q h =
    let e = edge_at c.args.graph.now c.loop-p.p c.index-graph-p.result _ c.loop-p-test.true c.index-graph-p.is c.as_slice.ensures.value q h in
    let below = c.requires.graph c.loop-p.p q e in
    omega (arith, below, c.loop-p.invariant.size)

pub loop-p-preserved : goal.loop-p-preserved
loop-p-preserved c = record {
  size = c.in_ok-add_back.ensures.size ∙ c.loop-p.invariant.size;
  back = λ p q h e. elim (cases_lt p c.loop-p.p) [
    | inl old ↦ c.in_ok-add_back.ensures.kept q p (c.loop-p.invariant.back p q old e)
    | inr now ↦ (let is : p ≡ c.loop-p.p = omega (arith, h, now) in
        let P : ℕ → Type 0 = λ z. IsEdge (successors c.args.graph.now) z q in
        let Q : ℕ → Type 0 = λ z. IsEdge (successors c.add_back.new.back.items) q z in
        subst Q (sym is) (c.in_ok-add_back.ensures.added q
        (at_edge c.args.graph.now c.loop-p.p c.index-graph-p.result c.as_slice.result.now c.loop-p-test.true c.index-graph-p.is c.as_slice.ensures.value q (subst P is e))))
  ];
  only = λ p q e. elim (c.in_ok-add_back.ensures.from q p e) [
    | inl old ↦ c.loop-p.invariant.only p q old
    | inr new ↦ (let P : ℕ → Type 0 = λ z. IsEdge (successors c.args.graph.now) z q in subst P (sym new.0)
        (edge_at c.args.graph.now c.loop-p.p c.index-graph-p.result c.as_slice.result.now c.loop-p-test.true c.index-graph-p.is c.as_slice.ensures.value q new.1))
  ];
}

pub returns-clause-back : goal.returns-clause-back
returns-clause-back c p q e = let h = edge_from c.args.graph.now p q e in c.loop-p.invariant.back p q (omega (arith, h)) e
