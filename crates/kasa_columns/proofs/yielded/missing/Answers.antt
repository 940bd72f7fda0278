use Rattle.std.proofs.Common.{◌∙◌, sym, ap}
use Rattle.std.specs.Prelude.{Some}
use Rattle.std.specs.Option.{option_copied}
use Rattle.kasa_columns.proofs.FoundLemmas.{none-missing, first-missing}
use Rattle.kasa_columns.proofs.yielded.missing.Goals as goal

pub returns-in-None : goal.returns-in-None
returns-in-None g c =
    none-missing c.args.sig.now (g.R.Rows.tables c.args.rows.now) c.args.rule.now c.args.f c.in_ok-found.found.keys c.in_ok-found.ensures.found c.in_ok-found.ensures.settled (sym (ap option_copied c.in-None.is) ∙ c.first.ensures.key)

pub returns : goal.returns
returns g c =
    first-missing c.args.sig.now (g.R.Rows.tables c.args.rows.now) c.args.rule.now c.args.f c.in_ok-found.found.keys c.in_ok-found.ensures.found c.in_ok-found.ensures.settled c.copy.result
    (sym c.first.ensures.key ∙ ap option_copied c.in-Some.is ∙ ap Some (sym c.copy.ensures))
