use Rattle.std.proofs.Common.{◌≡◌, ℕ, length, arith, subst, inl, inr}
use Rattle.std.proofs.lemmas.Bool.{cases_lt}
use Rattle.kasa_digraph.specs.Graph.{successors, Leads}
use Rattle.kasa_digraph.proofs.Walks.{walk_within}
use Rattle.kasa_digraph.proofs.Searching.{edge_at, at_edge}
use Rattle.kasa_digraph.proofs.Components.{cycle_same, same_cycle}
use Rattle.kasa_digraph.proofs.cycle.least_on_cycle.Goals as goal

pub has_component-requires : goal.has_component-requires
has_component-requires c q h =
    let below = c.requires.graph c.loop-p.p q (edge_at c.args.graph.now c.loop-p.p c.index-graph-p.result c.as_slice.result.now c.loop-p-test.true c.index-graph-p.is c.as_slice.ensures.value q h) in
    omega (arith, below, c.requires.size)

pub returns-then-has_component-clause-some : goal.returns-then-has_component-clause-some
returns-then-has_component-clause-some c =
    let found = c.has_component.ensures.yes c.if-has_component.true in
    let e = edge_at c.args.graph.now c.loop-p.p c.index-graph-p.result c.as_slice.result.now c.loop-p-test.true c.index-graph-p.is c.as_slice.ensures.value found.0 found.1 in
    same_cycle (successors c.args.graph.now) (length c.args.graph.now) c.args.components.now c.requires.components c.loop-p.p found.0 c.loop-p-test.true (c.requires.graph c.loop-p.p found.0 e) e found.2

pub loop-p-preserved : goal.loop-p-preserved
loop-p-preserved c = record {
  none = λ x h leads. elim (cases_lt x c.loop-p.p) [
    | inl old ↦ c.loop-p.invariant.none x old leads
    | inr now ↦ (let is : x ≡ c.loop-p.p = omega (arith, h, now) in
        let P : ℕ → Type 0 = λ z. Leads (successors c.args.graph.now) z z in
        let found = cycle_same (successors c.args.graph.now) (length c.args.graph.now) c.args.components.now c.requires.components c.loop-p.p (subst P is leads) in
        c.has_component.ensures.no c.if-has_component.false found.0
        (at_edge c.args.graph.now c.loop-p.p c.index-graph-p.result c.as_slice.result.now c.loop-p-test.true c.index-graph-p.is c.as_slice.ensures.value found.0 found.1) found.2)
  ];
}

pub returns-clause-none : goal.returns-clause-none
returns-clause-none c p leads =
    let h = walk_within (successors c.args.graph.now) (length c.args.graph.now) p leads.0 p c.requires.graph leads.1 in
    c.loop-p.invariant.none p (omega (arith, h)) leads
