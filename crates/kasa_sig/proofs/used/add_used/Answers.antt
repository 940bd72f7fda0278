use Rattle.std.proofs.Common.{[]}
use Rattle.std.proofs.lemmas.Result.{err_from_is_err_and}
use Rattle.kasa_sig.specs.declared.names.Source.TheVariants.{Uses}
use Rattle.kasa_sig.specs.Mentions.{used_decl}
use Rattle.kasa_sig.proofs.AfterLemmas.{after-none, each_more, each_all, each_Err}
use Rattle.kasa_sig.proofs.used.add_used.Goals as goal

pub loop-decl-init : goal.loop-decl-init
loop-decl-init c = after-none Uses c.args.sig.now

pub returns-in_err-use_decl-clause-err : goal.returns-in_err-use_decl-clause-err
returns-in_err-use_decl-clause-err c =
    let p = err_from_is_err_and c.from_residual.result c.from_residual.ensures.1 in
    rw (p.1, p.2) (λ known.
    each_Err Uses (used_decl c.args.text.now) [] c.args.decls.now c.loop-decl.decl-index c.args.sig.now c.loop-decl.sig c.loop-decl.invariant
    c.decl-item.result c.decl-item.result c.in_err-use_decl.field-0.0 c.loop-decl-test.true c.decl-item.is (c.in_err-use_decl.ensures.err known))

pub loop-decl-preserved : goal.loop-decl-preserved
loop-decl-preserved c =
    each_more Uses (used_decl c.args.text.now) [] c.args.decls.now c.loop-decl.decl-index c.args.sig.now c.loop-decl.sig c.loop-decl.invariant
    c.decl-item.result c.decl-item.result c.use_decl.new.sig c.loop-decl-test.true c.decl-item.is c.in_ok-use_decl.ensures.ok

pub returns-clause-ok : goal.returns-clause-ok
returns-clause-ok c =
    each_all Uses (used_decl c.args.text.now) [] c.args.decls.now c.loop-decl.decl-index c.args.sig.now c.loop-decl.sig c.loop-decl.invariant c.loop-decl-test.false
