use Rattle.std.proofs.Common.{◌∙◌, ap}
use Rattle.std.proofs.lemmas.Result.{IfOk-weaker}
use Rattle.kasa_columns.specs.Ask.{IsAsk}
use Rattle.kasa_columns.specs.Comes.{Outcome}
use Rattle.kasa_columns.proofs.WalkLemmas.{few_locals}
use Rattle.kasa_columns.proofs.walk.try_outcome.Goals as goal

pub new-locals-requires : goal.new-locals-requires
new-locals-requires g c =
    let ok : IsAsk c.args.search.now = rw (← c.search.view_is) c.search.invariant in
    rw (c.as_slice.ensures.value ∙ ap (λ (o : Outcome). o.locals) c.out.view_is)
    (few_locals c.args.search.now ok c.args.stands.now c.args.out.now c.requires.comes)

pub returns-clause-settled : goal.returns-clause-settled
returns-clause-settled g c =
    let locals = c.new-locals.ensures ∙ c.as_slice.ensures.value ∙ ap (λ (o : Outcome). o.locals) c.out.view_is in
    let freed = c.as_slice-2.ensures.value ∙ ap (λ (o : Outcome). o.freed) c.out.view_is in
    IfOk-weaker c.try_locals.result _ _ (λ done settled. rw (locals, freed) at settled) c.try_locals.ensures.settled
