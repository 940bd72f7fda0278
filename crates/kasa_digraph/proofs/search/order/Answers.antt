use Rattle.kasa_digraph.proofs.Orders.{order_no_cycle}
use Rattle.kasa_digraph.proofs.search.order.Goals as goal

pub returns-then-branch-clause-no_cycle : goal.returns-then-branch-clause-no_cycle
returns-then-branch-clause-no_cycle c = order_no_cycle _ _ _ c.requires.graph (c.in_ok-is_order.ensures.yes c.if-branch.true)
