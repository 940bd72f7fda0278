use Rattle.std.proofs.Common.{◌∙◌}
use Rattle.kasa_influence.proofs.OneLemmas.{type_known}
use Rattle.kasa_influence.proofs.StopsLemmas.{and_one-is}
use Rattle.kasa_influence.proofs.stops.with_node.Goals as goal

pub add_node-requires-clause-known : goal.add_node-requires-clause-known
add_node-requires-clause-known g c = rw (← c.ask.view_is) at (type_known c.args.ask.now.sig c.args.v.now c.requires c.agent.result c.agent.ensures)

pub returns : goal.returns
returns g c =
    c.in_ok-add_node.ensures.ok.1 ∙ rw (c.in_ok-g.ensures, c.left.ensures.pattern, ← c.ask.view_is)
    (and_one-is c.ask.inside.sig.now c.ask.inside.rule.now.left c.args.v.now c.agent.result c.requires.one c.agent.ensures)
