use Rattle.kasa_graph.proofs.ShapeLemmas.{node_of_agent}
use Rattle.kasa_pre.proofs.stands.add_place.Goals as goal

pub add_node-requires-clause-known : goal.add_node-requires-clause-known
add_node-requires-clause-known c =
    let node = node_of_agent c.args.v.now c.args.node c.agent.result c.agent.ensures in
    rw (← node.2) (c.requires.known.types c.args.node node.0 node.1)
