use Rattle.std.proofs.Common.{take, sym}
use Rattle.std.proofs.lemmas.List.{take_all}
use Rattle.kasa_columns.proofs.Pushing.{take_one_more}
use Rattle.kasa_columns.proofs.OutcomeLemmas.{comes_of_one_more}
use Rattle.kasa_columns.proofs.fired.with_column.Goals as goal

pub loop-out-preserved : goal.loop-out-preserved
loop-out-preserved c =
    let next = take_one_more c.args.rest.now c.loop-out.out-index c.out-item.result c.loop-out-test.true c.out-item.is in
    rw next
    (comes_of_one_more c.args.rule.now c.args.stand.now c.args.column c.args.shown.now c.in_ok-sources.sources.items c.in_ok-sources.ensures (take c.loop-out.out-index c.args.rest.now) c.out-item.result c.loop-out.outs.items c.push_freed.new.outs.items c.loop-out.invariant (rw (c.in_ok-push.ensures.items, c.in_ok-kept_before.ensures, c.as_slice.ensures.value, c.local_after-kept.ensures) at c.in_ok-push_freed.ensures))

pub returns : goal.returns
returns c = rw (sym (take_all c.loop-out.out-index c.args.rest.now c.loop-out-test.false)) c.loop-out.invariant
