use Rattle.std.proofs.Common.{ap, sym}
use Rattle.kasa_families.specs.declared.rows.Origin.TheVariants.{Init}
use Rattle.kasa_families.proofs.TableLemmas.{IsFamily-of_tables}
use Rattle.kasa_rules.specs.declared.model.Model.{Model}
use Rattle.kasa_check.proofs.PairLemmas.{no_given, first_given, given_occur}
use Rattle.kasa_check.proofs.FirstLemmas.{complex_over}
use Rattle.kasa_check.proofs.inits.first_initial.Goals as goal

pub initial-requires-clause-valid : goal.initial-requires-clause-valid
initial-requires-clause-valid g c =
    rw (ap (λ (m : Model). m.sig) c.model.view_is) (IsFamily-of_tables c.args.model.now.sig (g.R.Rows.tables c.args.rows.now) c.requires.tables c.in-Some.family.now (c.args.f, sym c.in-Some.ensures))

pub initial-requires-clause-over : goal.initial-requires-clause-over
initial-requires-clause-over g c =
    rw (ap (λ (m : Model). m.sig) c.model.view_is) (complex_over c.args.model.now (rw c.model.view_is at c.model.invariant.0) c.args.number c.args.init.now c.requires.declared)

pub returns-in-None : goal.returns-in-None
returns-in-None g c =
    let are = rw (ap (λ (m : Model). m.sig) c.model.view_is) at c.in_ok-given.ensures.rows in
    let tables = g.R.Rows.tables c.args.rows.now in
    let given = given_occur c.args.model.now tables c.requires.tables c.args.f c.in-Some.family.now (sym c.in-Some.ensures) c.args.number c.args.init.now c.requires.declared c.in_ok-given.given.items are in
    no_given c.args.model.now tables c.requires.tables c.args.f c.in-Some.family.now (sym c.in-Some.ensures) (Init c.args.number) c.in_ok-given.given.items given (rw c.as_slice.ensures.value at c.in-None.ensures)

pub returns : goal.returns
returns g c =
    let are = rw (ap (λ (m : Model). m.sig) c.model.view_is) at c.in_ok-given.ensures.rows in
    let tables = g.R.Rows.tables c.args.rows.now in
    let given = given_occur c.args.model.now tables c.requires.tables c.args.f c.in-Some.family.now (sym c.in-Some.ensures) c.args.number c.args.init.now c.requires.declared c.in_ok-given.given.items are in
    first_given c.args.model.now tables c.requires.tables c.args.f c.in-Some.family.now (sym c.in-Some.ensures) (Init c.args.number) c.in_ok-given.given.items given c.in-Some-first_lacked.row (rw c.as_slice.ensures.value at c.in-Some-first_lacked.ensures)
