use Rattle.std.proofs.Common.{◌≡◌, ap, sym, rules}
use Rattle.std.specs.Prelude.{Some, slice_get}
use Rattle.kasa_families.specs.declared.row.Row.{Row}
use Rattle.kasa_families.specs.Table.{families_of}
use Rattle.kasa_families.proofs.TableLemmas.{IsFamily-of_tables}
use Rattle.kasa_rules.specs.declared.model.Model.{Model}
use Rattle.kasa_fixpoint.proofs.TableRows.{Holds-at}
use Rattle.kasa_fixpoint.proofs.StepLemmas.{AreDue-initial, HasShape-row, IsStep-takes, PassesLimit-lacks}
use Rattle.kasa_fixpoint.proofs.inits.insert_initial.Goals as goal

pub initial-requires-clause-valid : goal.initial-requires-clause-valid
initial-requires-clause-valid c =
    rw (ap (λ (m : Model). m.sig) c.model.view_is) (IsFamily-of_tables c.args.model.now.sig c.args.tables.now c.requires.under_way.are_tables c.in-Some.family.now (c.args.f, sym c.in-Some.ensures))

pub initial-requires-clause-over : goal.initial-requires-clause-over
initial-requires-clause-over c =
    let init = c.requires.init in
    c.model.invariant.0.inits init.0 c.args.init.now (rw (← c.model.view_is) at init.1)

pub insert_all-requires-clause-shape : goal.insert_all-requires-clause-shape
insert_all-requires-clause-shape c =
    let are = rw (ap (λ (m : Model). m.sig) c.model.view_is) at c.in_ok-rows.ensures.rows in
    (c.in-Some.family.now, sym c.in-Some.ensures, λ (row : Row) has. HasShape-row c.args.model.now.sig c.in-Some.family.now row ((are row).0 has).0)

pub returns-in_err-_grew-clause-too_many : goal.returns-in_err-_grew-clause-too_many
returns-in_err-_grew-clause-too_many c e =
    let are = rw (ap (λ (m : Model). m.sig) c.model.view_is) at c.in_ok-rows.ensures.rows in
    let due = AreDue-initial c.args.model.now c.args.init.now c.in-Some.family.now c.in_ok-rows.rows.items c.requires.init are in
    PassesLimit-lacks c.args.model.now c.args.tables.now c.requires.under_way c.args.f c.in-Some.family.now c.in_ok-rows.rows.items (sym c.in-Some.ensures) due (c.in_err-_grew.ensures.too_many (search rules))

pub returns-clause-step : goal.returns-clause-step
returns-clause-step c =
    let are = rw (ap (λ (m : Model). m.sig) c.model.view_is) at c.in_ok-rows.ensures.rows in
    let due = AreDue-initial c.args.model.now c.args.init.now c.in-Some.family.now c.in_ok-rows.rows.items c.requires.init are in
    IsStep-takes c.args.model.now c.args.tables.now c.requires.under_way c.args.f c.in-Some.family.now c.in_ok-rows.rows.items (sym c.in-Some.ensures) due c.insert_all.new.tables c.in_ok-_grew.ensures.takes

pub returns-clause-initial : goal.returns-clause-initial
returns-clause-initial c =
    let are = rw (ap (λ (m : Model). m.sig) c.model.view_is) at c.in_ok-rows.ensures.rows in
    let takes = c.in_ok-_grew.ensures.takes in
    λ family named row valid occurs.
    let same : c.in-Some.family.now ≡ family = let first : Some c.in-Some.family.now ≡ slice_get (families_of c.args.tables.now) c.args.f = c.in-Some.ensures in cc in
    Holds-at c.insert_all.new.tables c.args.f family row (rw takes.families named) (takes.held row ((are row).1 (rw same (valid, occurs))))
