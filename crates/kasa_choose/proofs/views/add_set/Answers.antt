use Rattle.kasa_choose.proofs.PlanLists.{some_listed}
use Rattle.kasa_choose.proofs.ViewOrder.{adds_set}
use Rattle.kasa_choose.proofs.views.add_set.Goals as goal

pub returns-in_ok-insert : goal.returns-in_ok-insert
returns-in_ok-insert c =
    rw c.in_ok-insert.ensures.keys (adds_set c.args.sets.now.keys c.in_ok-from_slice.field-0 c.args.sites.now c.in_ok-from_slice.ensures.items (some_listed _ _ c.is_empty.ensures c.if-not-is_empty.true))
