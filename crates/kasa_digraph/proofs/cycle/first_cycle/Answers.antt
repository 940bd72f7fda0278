use Rattle.std.proofs.Common.{List, length, subst}
use Rattle.kasa_digraph.specs.Graph.{successors, IsEdge}
use Rattle.kasa_digraph.proofs.Walks.{walk_within}
use Rattle.kasa_digraph.proofs.Flooding.{edge_from}
use Rattle.kasa_digraph.proofs.Components.{first_cycle_is, no_cycle}
use Rattle.kasa_digraph.proofs.cycle.first_cycle.Goals as goal

pub components_of-requires-clause-graph : goal.components_of-requires-clause-graph
components_of-requires-clause-graph c p q e =
    edge_from c.args.graph.now q p (c.in_ok-back.ensures.only q p (subst (λ (g : List _). IsEdge (successors g) p q) c.as_slice.ensures.value e))

pub returns-in-None-clause-none : goal.returns-in-None-clause-none
returns-in-None-clause-none c = no_cycle (successors c.args.graph.now) c.in-None.ensures.none

pub distances_to-requires-clause-graph : goal.distances_to-requires-clause-graph
distances_to-requires-clause-graph c p q e =
    edge_from c.args.graph.now q p (c.in_ok-back.ensures.only q p (subst (λ (g : List _). IsEdge (successors g) p q) c.as_slice-in-Some.ensures.value e))

pub distances_to-requires-clause-start : goal.distances_to-requires-clause-start
distances_to-requires-clause-start c =
    let leads = c.in-Some.ensures.some in
    walk_within (successors c.args.graph.now) (length c.args.graph.now) c.in-Some.s leads.0 c.in-Some.s c.requires.graph leads.1

pub returns-clause-some : goal.returns-clause-some
returns-clause-some c = first_cycle_is (successors c.args.graph.now) c.in-Some.s c.in_ok-cycle-in-Some.cycle.items c.in-Some.ensures.least c.in_ok-cycle-in-Some.ensures
