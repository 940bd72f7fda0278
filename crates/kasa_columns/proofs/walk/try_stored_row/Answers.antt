use Rattle.std.proofs.Common.{◌≡◌, sym, ◌∙◌, subst, List}
use Rattle.std.proofs.lemmas.Result.{IfOk-weaker}
use Rattle.kasa_families.specs.declared.row.Local.{Local}
use Rattle.kasa_families.specs.declared.row.Row.TheVariants.{Locals}
use Rattle.kasa_columns.specs.Settled.{IsAgreeingSettled}
use Rattle.kasa_columns.proofs.walk.try_stored_row.Goals as goal

pub returns-in-Locals-clause-settled : goal.returns-in-Locals-clause-settled
returns-in-Locals-clause-settled g c =
    IfOk-weaker c.try_row.result _ _ (λ done settled shown e.
    let both : Locals c.in-Locals.shown ≡ Locals shown = sym c.in-Locals.is ∙ e in
    let same : c.in-Locals.shown ≡ shown = cc in
    subst (λ (ls : List Local). IsAgreeingSettled c.args.search.now c.args.stands.now c.try_row.new.found.keys ls) (c.as_slice.ensures.value ∙ same) settled) c.try_row.ensures.settled
