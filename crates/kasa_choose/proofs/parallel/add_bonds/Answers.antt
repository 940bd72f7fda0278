use Rattle.std.proofs.Common.{◌≡◌, Some, slice_get, refl}
use Rattle.std.specs.List.{flat_map}
use Rattle.kasa_choose.specs.Parallel.{two_bonds}
use Rattle.kasa_choose.proofs.PlanLists.{element_at}
use Rattle.kasa_choose.proofs.TurnLemmas.{element_turn}
use Rattle.kasa_choose.proofs.parallel.add_bonds.Goals as goal

pub loop-first-preserved : goal.loop-first-preserved
loop-first-preserved c =
    let at : slice_get c.args.firsts.now c.loop-first.first-index ≡ Some c.first-item.result = element_at _ _ _ _ refl c.loop-first-test.true c.first-item.is in
    element_turn c.args.planned (λ first. flat_map (two_bonds c.args.agent c.args.x c.args.u first) c.args.seconds.now) c.args.firsts.now c.loop-first.first-index c.first-item.result c.loop-first.planned c.in_ok-planned.planned at c.loop-first.invariant c.in_ok-planned.ensures
