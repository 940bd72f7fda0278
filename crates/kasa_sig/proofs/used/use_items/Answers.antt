use Rattle.std.proofs.Common.{[]}
use Rattle.std.proofs.lemmas.Result.{err_from_is_err_and}
use Rattle.kasa_sig.specs.declared.names.Source.TheVariants.{Uses}
use Rattle.kasa_sig.specs.Mentions.{used_item}
use Rattle.kasa_sig.proofs.AfterLemmas.{after-none, each_more, each_all, each_Err}
use Rattle.kasa_sig.proofs.used.use_items.Goals as goal

pub loop-item-init : goal.loop-item-init
loop-item-init c = after-none Uses c.args.sig.now

pub returns-in_err-use_item-clause-err : goal.returns-in_err-use_item-clause-err
returns-in_err-use_item-clause-err c =
    let p = err_from_is_err_and c.from_residual.result c.from_residual.ensures.1 in
    rw (p.1, p.2) (λ known.
    each_Err Uses (used_item c.args.text.now) [] c.args.items.now c.loop-item.item-index c.args.sig.now c.loop-item.sig c.loop-item.invariant
    c.item-item.result c.item-item.result c.in_err-use_item.field-0.0 c.loop-item-test.true c.item-item.is (c.in_err-use_item.ensures.err known))

pub loop-item-preserved : goal.loop-item-preserved
loop-item-preserved c =
    each_more Uses (used_item c.args.text.now) [] c.args.items.now c.loop-item.item-index c.args.sig.now c.loop-item.sig c.loop-item.invariant
    c.item-item.result c.item-item.result c.use_item.new.sig c.loop-item-test.true c.item-item.is c.in_ok-use_item.ensures.ok

pub returns-clause-ok : goal.returns-clause-ok
returns-clause-ok c =
    each_all Uses (used_item c.args.text.now) [] c.args.items.now c.loop-item.item-index c.args.sig.now c.loop-item.sig c.loop-item.invariant c.loop-item-test.false
