use Rattle.std.proofs.Common.{◌<◌, length, arith}
use Rattle.std.proofs.lemmas.Bool.{ltb-true}
use Rattle.kasa_graph.proofs.FitLemmas.{agent_at_within}
use Rattle.kasa_graph.proofs.refine.has_type.Goals as goal

pub returns-else-node-nodes : goal.returns-else-node-nodes
returns-else-node-nodes c = (
  (λ below. absurd (let h = ltb-true _ _ below in omega arith)),
  (λ is. absurd (let within : c.node.inside.0 < length c.args.g.now = rw c.node.view_is (agent_at_within _ _ _ is) in omega arith)),
)
