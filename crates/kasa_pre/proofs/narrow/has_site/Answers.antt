use Rattle.std.proofs.Common.{arith}
use Rattle.kasa_graph.proofs.SiteLemmas.{HasNodeSite-over, HasSite-over}
use Rattle.kasa_graph.proofs.PatternLemmas.{node_bound}
use Rattle.kasa_pre.proofs.narrow.has_site.Goals as goal

pub returns-then-node-nodes : goal.returns-then-node-nodes
returns-then-node-nodes c = (
  λ yes. absurd cc,
  λ has. absurd (let within = node_bound c.args.g.now c.args.node c.args.site has in omega arith),
)

pub returns : goal.returns
returns c = (
  λ yes. HasNodeSite-over c.args.sig.now c.args.g.now c.requires c.args.node c.agent.result c.args.site c.agent.ensures (c.type_has_site.ensures.0 yes),
  λ has. c.type_has_site.ensures.1 (HasSite-over c.args.sig.now c.args.g.now c.requires c.args.node c.agent.result c.args.site c.agent.ensures has),
)
