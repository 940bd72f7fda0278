use Rattle.std.proofs.Common.{◌≡◌, Some, slice_get, refl}
use Rattle.kasa_choose.specs.Parallel.{two_bonds}
use Rattle.kasa_choose.proofs.PlanLists.{element_at}
use Rattle.kasa_choose.proofs.TurnLemmas.{element_turn}
use Rattle.kasa_choose.proofs.parallel.add_seconds.Goals as goal

pub loop-second-preserved : goal.loop-second-preserved
loop-second-preserved c =
    let at : slice_get c.args.seconds.now c.loop-second.second-index ≡ Some c.second-item.result = element_at _ _ _ _ refl c.loop-second-test.true c.second-item.is in
    element_turn c.args.planned (two_bonds c.args.agent c.args.x c.args.u c.args.first.now) c.args.seconds.now c.loop-second.second-index c.second-item.result c.loop-second.planned c.in_ok-planned.planned at c.loop-second.invariant c.in_ok-planned.ensures
