use Rattle.kasa_columns.specs.Chosen.{IsInFront}
use Rattle.kasa_columns.proofs.Pushing.{pushed_next, pushed_all, from_all}
use Rattle.kasa_columns.proofs.chosen.with_column.Goals as goal

pub loop-local-preserved : goal.loop-local-preserved
loop-local-preserved c =
    pushed_next (IsInFront c.args.rest.now) _ c.args.states.now c.loop-local.local-index c.loop-local.all.items _ c.local-item.result c.loop-local-test.true c.local-item.is c.loop-local.invariant c.in_ok-push_in_front.ensures

pub returns : goal.returns
returns c =
    from_all (IsInFront c.args.rest.now) c.args.states.now c.loop-local.all.items
    (rw c.new-all.ensures.items at (pushed_all (IsInFront c.args.rest.now) _ c.args.states.now c.loop-local.local-index c.loop-local.all.items c.loop-local-test.false c.loop-local.invariant))
