use Rattle.std.proofs.Common.{ap, length, arith}
use Rattle.kasa_columns.proofs.StandLemmas.{left_within}
use Rattle.kasa_parallel.proofs.partner.fits_left.Goals as goal

pub returns-then-node-nodes : goal.returns-then-node-nodes
returns-then-node-nodes c = (
  λ yes. absurd (let e = yes in cc),
  λ fits. absurd (let within = left_within c.args.rule.now c.args.node c.args.agent fits in let past = c.if-node-nodes.true in let count = c.nodes.ensures.count in let same = ap length c.left.ensures.pattern in omega arith),
)
