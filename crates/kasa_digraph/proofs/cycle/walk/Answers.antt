use Rattle.std.proofs.Common.{◌≡◌, ◌<◌, ◌∷◌, ◌++◌, [], ℕ, List, length, arith, sym, ap, subst, ◌∙◌}
use Rattle.kasa_digraph.specs.Graph.{successors, IsGraph}
use Rattle.kasa_digraph.specs.inner.Cycle.{IsClosest, IsFollowed}
use Rattle.kasa_digraph.proofs.Lists.{has_some}
use Rattle.kasa_digraph.proofs.Walks.{walk_within, first_edge}
use Rattle.kasa_digraph.proofs.Searching.{edge_at, at_edge, successors_at}
use Rattle.kasa_digraph.proofs.Distances.{follow_begins, follow_more, follow_ends, goes_on, gets_closer}
use Rattle.kasa_digraph.proofs.cycle.walk.Goals as goal

pub bounds-graph-s : goal.bounds-graph-s
bounds-graph-s c = walk_within (successors c.args.graph.now) (length c.args.graph.now) c.args.s c.requires.start.0 c.args.s c.requires.graph c.requires.start.1

pub closest-at-requires-clause-some : goal.closest-at-requires-clause-some
closest-at-requires-clause-some c =
    let within = walk_within (successors c.args.graph.now) (length c.args.graph.now) c.args.s c.requires.start.0 c.args.s c.requires.graph c.requires.start.1 in
    let e = first_edge (successors c.args.graph.now) c.args.s c.requires.start.0 c.args.s c.requires.start.1 in
    has_some c.as_slice.result.now e.0 (at_edge c.args.graph.now c.args.s c.index-graph-s.result c.as_slice.result.now within c.index-graph-s.is c.as_slice.ensures.value e.0 e.1)

pub closest-at-requires-clause-within : goal.closest-at-requires-clause-within
closest-at-requires-clause-within c q h =
    let within = walk_within (successors c.args.graph.now) (length c.args.graph.now) c.args.s c.requires.start.0 c.args.s c.requires.graph c.requires.start.1 in
    let below = c.requires.graph c.args.s q (edge_at c.args.graph.now c.args.s c.index-graph-s.result c.as_slice.result.now within c.index-graph-s.is c.as_slice.ensures.value q h) in
    omega (arith, below, c.requires.size)

pub steps-init : goal.steps-init
steps-init c =
    let within = walk_within (successors c.args.graph.now) (length c.args.graph.now) c.args.s c.requires.start.0 c.args.s c.requires.graph c.requires.start.1 in
    let same = c.as_slice.ensures.value ∙ sym (successors_at c.args.graph.now c.args.s c.index-graph-s.result within c.index-graph-s.is) in
    let graph : IsGraph (successors c.args.graph.now) (length c.args.distances.now) = λ p q e. let h = c.requires.graph p q e in omega (arith, h, c.requires.size) in
    let start : c.push.new.self.items ≡ c.args.s ∷ [] = c.in_ok-push.ensures.items ∙ ap (λ (xs : List ℕ). xs ++ c.args.s ∷ []) c.new-walk.ensures.items in
    record {
      followed = subst (λ (xs : List ℕ). IsFollowed (successors c.args.graph.now) c.args.distances.now c.args.s xs c.closest-at.result) (sym start)
          (follow_begins (successors c.args.graph.now) c.args.distances.now c.args.s c.requires.distances c.closest-at.result graph c.requires.start
          (subst (λ (qs : List ℕ). IsClosest c.args.distances.now qs c.closest-at.result) same c.closest-at.ensures));
    }

pub closest-at-requires-in-steps-clause-some : goal.closest-at-requires-in-steps-clause-some
closest-at-requires-in-steps-clause-some c =
    let f = c.steps.invariant.followed in
    let within : c.steps.at < length c.args.graph.now = let h = f.within in omega (arith, h, c.requires.size) in
    let e = goes_on (successors c.args.graph.now) c.args.distances.now c.args.s c.steps.at c.steps.walk.items c.requires.distances c.steps-test.true f in
    has_some c.as_slice-in-steps.result.now e.0 (at_edge c.args.graph.now c.steps.at c.index-graph-at.result c.as_slice-in-steps.result.now within c.index-graph-at.is c.as_slice-in-steps.ensures.value e.0 e.1)

pub closest-at-requires-in-steps-clause-within : goal.closest-at-requires-in-steps-clause-within
closest-at-requires-in-steps-clause-within c q h =
    let within : c.steps.at < length c.args.graph.now = let h = c.steps.invariant.followed.within in omega (arith, h, c.requires.size) in
    let below = c.requires.graph c.steps.at q (edge_at c.args.graph.now c.steps.at c.index-graph-at.result c.as_slice-in-steps.result.now within c.index-graph-at.is c.as_slice-in-steps.ensures.value q h) in
    omega (arith, below, c.requires.size)

pub steps-smaller : goal.steps-smaller
steps-smaller c =
    let within : c.steps.at < length c.args.graph.now = let h = c.steps.invariant.followed.within in omega (arith, h, c.requires.size) in
    let same = c.as_slice-in-steps.ensures.value ∙ sym (successors_at c.args.graph.now c.steps.at c.index-graph-at.result within c.index-graph-at.is) in
    gets_closer (successors c.args.graph.now) c.args.distances.now c.args.s c.steps.at c.closest-at-in-steps.result c.steps.walk.items c.requires.distances c.steps-test.true c.steps.invariant.followed
    (subst (λ (qs : List ℕ). IsClosest c.args.distances.now qs c.closest-at-in-steps.result) same c.closest-at-in-steps.ensures)

pub steps-preserved : goal.steps-preserved
steps-preserved c =
    let within : c.steps.at < length c.args.graph.now = let h = c.steps.invariant.followed.within in omega (arith, h, c.requires.size) in
    let same = c.as_slice-in-steps.ensures.value ∙ sym (successors_at c.args.graph.now c.steps.at c.index-graph-at.result within c.index-graph-at.is) in
    let graph : IsGraph (successors c.args.graph.now) (length c.args.distances.now) = λ p q e. let h = c.requires.graph p q e in omega (arith, h, c.requires.size) in
    record {
      followed = subst (λ (xs : List ℕ). IsFollowed (successors c.args.graph.now) c.args.distances.now c.args.s xs c.closest-at-in-steps.result) (sym c.in_ok-push-2.ensures.items)
          (follow_more (successors c.args.graph.now) c.args.distances.now c.args.s c.requires.distances c.steps.walk.items c.steps.at c.closest-at-in-steps.result graph c.steps-test.true
          (subst (λ (qs : List ℕ). IsClosest c.args.distances.now qs c.closest-at-in-steps.result) same c.closest-at-in-steps.ensures) c.steps.invariant.followed);
    }

pub returns : goal.returns
returns c = follow_ends (successors c.args.graph.now) c.args.distances.now c.args.s c.requires.distances c.steps.walk.items c.steps.at c.steps-test.false c.steps.invariant.followed
