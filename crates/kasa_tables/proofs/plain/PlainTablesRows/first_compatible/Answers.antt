use Rattle.std.proofs.Common.{◌≡◌, ap, ◌∙◌}
use Rattle.std.specs.Prelude.{Some, slice_get}
use Rattle.kasa_families.specs.Table.{Table}
use Rattle.kasa_families.proofs.ListedLemmas.{IsLeastFrom-rows}
use Rattle.kasa_tables.proofs.plain.PlainTablesRows.first_compatible.Goals as goal

pub returns : goal.returns
returns c =
    let t : Table = record { family = c.table-2.inside.family; rows = c.table-2.inside.rows.keys } in
    let at : Some t ≡ slice_get c.args.self.now c.args.f = ap Some c.table-2.view_is ∙ c.in_ok-table.ensures in
    IsLeastFrom-rows c.args.self.now c.args.f t at c.args.g.now c.args.spot c.args.from c.first_among.result
    (rw c.as_slice.ensures.keys at c.first_among.ensures)
