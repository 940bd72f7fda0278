use Rattle.std.proofs.Common.{refl}
use Rattle.kasa_columns.specs.Chosen.{IsConsOf}
use Rattle.kasa_columns.proofs.Pushing.{pushed_next, pushed_all, adds_one}
use Rattle.kasa_columns.proofs.chosen.push_in_front.Goals as goal

pub loop-shown-preserved : goal.loop-shown-preserved
loop-shown-preserved c =
    rw (c.in_ok-push-2.ensures.items, c.in_ok-extend_from_slice.ensures.items, c.in_ok-push.ensures.items, c.in_ok-items.ensures.items, c.as_slice.ensures)
    (pushed_next (IsConsOf c.args.local.now) _ c.args.rest.now c.loop-shown.shown-index c.loop-shown.all.items _ c.shown-item.result c.loop-shown-test.true c.shown-item.is c.loop-shown.invariant (adds_one (IsConsOf c.args.local.now) c.loop-shown.all.items c.shown-item.result _ refl (λ more e. e)))

pub returns : goal.returns
returns c = pushed_all (IsConsOf c.args.local.now) _ c.args.rest.now c.loop-shown.shown-index c.loop-shown.all.items c.loop-shown-test.false c.loop-shown.invariant
