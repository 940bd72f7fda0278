use Rattle.std.proofs.Common.{◌+◌, drop, ◌∙◌}
use Rattle.std.proofs.lemmas.Result.{err_from_is_err_and}
use Rattle.kasa_compile.specs.Compiling.{model_in}
use Rattle.kasa_compile.proofs.CompiledLemmas.{next_decl, try_decls-next, try_decls-none}
use Rattle.kasa_compile.proofs.compile.add_all.Goals as goal

pub loop-decl-preserved : goal.loop-decl-preserved
loop-decl-preserved c = (
  try_decls-next c.args.text.now c.decl-item.result (drop (c.loop-decl.decl-index + 1) c.args.decls.now) (drop c.loop-decl.decl-index c.args.decls.now) (model_in c.loop-decl.next) _ _
      (next_decl c.args.decls.now c.loop-decl.decl-index c.decl-item.result c.decl-item.result c.loop-decl-test.true c.decl-item.is) c.loop-decl.invariant.0 c.in_ok-next.ensures.added,
  c.in_ok-next.ensures.after,
)

pub returns-in_err-next-clause-fault : goal.returns-in_err-next-clause-fault
returns-in_err-next-clause-fault c =
    let p = err_from_is_err_and c.from_residual.result c.from_residual.ensures.1 in
    rw (p.1, p.2) (λ known.
    try_decls-next c.args.text.now c.decl-item.result (drop (c.loop-decl.decl-index + 1) c.args.decls.now) (drop c.loop-decl.decl-index c.args.decls.now) (model_in c.loop-decl.next) _ _
    (next_decl c.args.decls.now c.loop-decl.decl-index c.decl-item.result c.decl-item.result c.loop-decl-test.true c.decl-item.is) c.loop-decl.invariant.0 (c.in_err-next.ensures.fault known))

pub returns-clause-added : goal.returns-clause-added
returns-clause-added c = c.loop-decl.invariant.0 ∙ try_decls-none c.args.text.now c.args.decls.now c.loop-decl.decl-index (model_in c.loop-decl.next) c.loop-decl-test.false
