use Rattle.std.proofs.Common.{◌≡◌, take, sym, ap, ◌∙◌}
use Rattle.std.proofs.lemmas.List.{take_all}
use Rattle.kasa_columns.specs.Comes.{Outcome}
use Rattle.kasa_columns.proofs.Pushing.{take_one_more}
use Rattle.kasa_columns.proofs.OutcomeLemmas.{frees_one_more, frees_no_more}
use Rattle.kasa_columns.proofs.fired.push_freed.Goals.{then-not-frees_too+in_ok-freed_before+in_ok-push, else-not-frees_too}
use Rattle.kasa_columns.proofs.fired.push_freed.Goals as goal

pub loop-source-preserved : goal.loop-source-preserved
loop-source-preserved c =
    let next = take_one_more c.args.sources.now c.loop-source.source-index c.source-item.result c.loop-source-test.true c.source-item.is in
    let same : c.as_slice.result.now ≡ c.args.out.now.freed = c.as_slice.ensures.value ∙ ap (λ (o : Outcome). o.freed) c.out.view_is in
    let too = rw same at c.frees_too.ensures in
    elim c.if-not-frees_too.branch [
      | then-not-frees_too+in_ok-freed_before+in_ok-push w ↦
          rw (w.outs-is, w.in_ok-push.ensures.items, w.in_ok-freed_before.ensures, next)
          (frees_one_more c.args.freed.now c.args.out.now c.args.outs.now.items c.loop-source.outs.items (take c.loop-source.source-index c.args.sources.now) c.source-item.result c.loop-source.invariant (λ frees. let yes = too.1 frees in let no = w.if-not-frees_too.true in absurd cc))
      | else-not-frees_too w ↦
          rw (w.outs-is, next)
          (frees_no_more c.args.freed.now c.args.out.now c.args.outs.now.items c.loop-source.outs.items (take c.loop-source.source-index c.args.sources.now) c.source-item.result c.loop-source.invariant (too.0 w.if-not-frees_too.false))
    ]

pub returns : goal.returns
returns c = rw (sym (take_all c.loop-source.source-index c.args.sources.now c.loop-source-test.false)) c.loop-source.invariant
