use Rattle.std.proofs.Common.{append_assoc}
use Rattle.kasa_graph.proofs.TextLemmas.{node_text_at-is, ends_next}
use Rattle.kasa_graph.proofs.text.write_node.Goals as goal

pub returns-clause-text : goal.returns-clause-text
returns-clause-text c =
    rw (node_text_at-is c.args.sig.now c.args.pattern.now c.args.node c.agent_of-agent.result c.agent_of-agent.ensures, c.in_ok-push-2.ensures.items, c.in_ok-write_sites.ensures.text, c.in_ok-push.ensures.items, c.in_ok-write_name.ensures, c.type_name.ensures)
    (simp append_assoc)

pub returns-clause-seen : goal.returns-clause-seen
returns-clause-seen c = rw (ends_next c.args.pattern.now c.args.node c.agent_of-agent.result c.agent_of-agent.ensures, ← c.requires.seen) c.in_ok-write_sites.ensures.seen
