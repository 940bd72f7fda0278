use Rattle.std.proofs.Common.{[]}
use Rattle.std.proofs.lemmas.Result.{err_from_is_err_and}
use Rattle.kasa_sig.specs.declared.names.Source.TheVariants.{Declarations}
use Rattle.kasa_sig.specs.Mentions.{declared_by}
use Rattle.kasa_sig.proofs.AfterLemmas.{after-none, each_more, each_all, each_Err}
use Rattle.kasa_sig.proofs.declared.add_declared.Goals as goal

pub loop-decl-init : goal.loop-decl-init
loop-decl-init c = after-none Declarations c.args.sig.now

pub returns-in_err-declare-clause-err : goal.returns-in_err-declare-clause-err
returns-in_err-declare-clause-err c =
    let p = err_from_is_err_and c.from_residual.result c.from_residual.ensures.1 in
    rw (p.1, p.2) (λ known.
    each_Err Declarations (declared_by c.args.text.now) [] c.args.decls.now c.loop-decl.decl-index c.args.sig.now c.loop-decl.sig c.loop-decl.invariant
    c.decl-item.result c.decl-item.result c.in_err-declare.field-0.0 c.loop-decl-test.true c.decl-item.is (c.in_err-declare.ensures.err known))

pub loop-decl-preserved : goal.loop-decl-preserved
loop-decl-preserved c =
    each_more Declarations (declared_by c.args.text.now) [] c.args.decls.now c.loop-decl.decl-index c.args.sig.now c.loop-decl.sig c.loop-decl.invariant
    c.decl-item.result c.decl-item.result c.declare.new.sig c.loop-decl-test.true c.decl-item.is c.in_ok-declare.ensures.ok

pub returns-clause-ok : goal.returns-clause-ok
returns-clause-ok c =
    each_all Declarations (declared_by c.args.text.now) [] c.args.decls.now c.loop-decl.decl-index c.args.sig.now c.loop-decl.sig c.loop-decl.invariant c.loop-decl-test.false
