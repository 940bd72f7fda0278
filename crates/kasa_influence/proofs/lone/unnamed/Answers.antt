use Rattle.std.proofs.Common.{◌≤◌, length, refl, arith}
use Rattle.kasa_influence.proofs.LoneLemmas.{agent_at-past}
use Rattle.kasa_influence.proofs.lone.unnamed.Goals as goal

pub returns-then-node-nodes : goal.returns-then-node-nodes
returns-then-node-nodes c =
    let past : length c.args.g.now ≤ c.in-To.node = let past = c.if-node-nodes.true in let count = c.nodes.ensures.count in omega arith in
    rw (c.in-To.is, agent_at-past c.args.g.now c.in-To.node past) refl
