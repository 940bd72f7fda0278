use Rattle.std.proofs.Common.{◌≡◌, Ok, Err, sym, subst}
use Rattle.std.proofs.lemmas.Result.{err_from_is_err_and}
use Rattle.kasa_rules.specs.declared.model.Model.{Model}
use Rattle.kasa_compile.specs.Model.{try_decls}
use Rattle.kasa_compile.specs.Compiling.{IsWhole, model_in}
use Rattle.kasa_compile.proofs.CompiledLemmas.{whole-signature}
use Rattle.kasa_compile.proofs.compile.compile.Goals as goal

pub add_all-requires-clause-before : goal.add_all-requires-clause-before
add_all-requires-clause-before c = subst IsWhole (sym c.nothing_yet-none.ensures) (whole-signature c.args.sig)

pub invariant_of-result : goal.invariant_of-result
invariant_of-result c = rw (c.new-inits.ensures, c.new-added.ensures, c.new-rules.ensures) c.in_ok-done.ensures.after

pub returns-clause-model : goal.returns-clause-model
returns-clause-model c =
    rw (c.new-inits.ensures, c.new-added.ensures, c.new-rules.ensures) (subst (λ (m : Model). try_decls c.args.text.now c.args.decls.now m ≡ Ok (model_in c.in_ok-done.done)) c.nothing_yet-none.ensures c.in_ok-done.ensures.added)

pub returns-in_err-done-clause-fault : goal.returns-in_err-done-clause-fault
returns-in_err-done-clause-fault c =
    let p = err_from_is_err_and c.from_residual.result c.from_residual.ensures.1 in
    rw (p.1, p.2) (λ known. subst (λ (m : Model). try_decls c.args.text.now c.args.decls.now m ≡ Err c.in_err-done.field-0.0) c.nothing_yet-none.ensures (c.in_err-done.ensures.fault known))
