use Rattle.std.proofs.Common.{sym, ap, length, arith}
use Rattle.kasa_columns.proofs.StandSites.{agent_at-past, made_type-past}
use Rattle.kasa_columns.proofs.written.end_type.Goals as goal

pub returns-then-n-nodes : goal.returns-then-n-nodes
returns-then-n-nodes c = rw c.in-Left.is (sym (agent_at-past c.args.rule.now.left c.in-Left.n (omega (arith, ap length c.left.ensures.pattern))))

pub returns-then-k-made : goal.returns-then-k-made
returns-then-k-made c = rw c.in-Made.is (sym (made_type-past c.args.rule.now c.in-Made.k (omega arith)))
