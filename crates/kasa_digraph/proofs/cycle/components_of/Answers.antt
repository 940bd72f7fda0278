use Rattle.std.proofs.Common.{◌≡◌, ℕ, length, arith, subst}
use Rattle.kasa_digraph.specs.Graph.{successors, IsGraph}
use Rattle.kasa_digraph.specs.inner.Cycle.{AreAssigned}
use Rattle.kasa_digraph.proofs.Flooding.{edge_from}
use Rattle.kasa_digraph.proofs.Components.{components_from}
use Rattle.kasa_digraph.proofs.cycle.components_of.Goals as goal

pub returns-clause-components : goal.returns-clause-components
returns-clause-components c =
    let graph : IsGraph (successors c.args.graph.now) (length c.args.graph.now) = λ p q e. let h = edge_from c.args.back.now q p (c.requires.reverse.back_to p q e) in omega (arith, h, c.requires.size) in
    let zero : c.places.k ≡ 0 = omega arith in
    components_from (successors c.args.graph.now) (length c.args.graph.now) c.args.order.now c.requires.order (edge_from c.args.graph.now) c.places.components.items graph
    (let P : ℕ → Type 0 = λ k. AreAssigned (successors c.args.graph.now) (length c.args.graph.now) c.args.order.now k c.places.components.items in subst P zero c.places.invariant.assigned)
