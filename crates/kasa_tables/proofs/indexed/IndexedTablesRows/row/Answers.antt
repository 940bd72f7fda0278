use Rattle.std.proofs.Common.{refl}
use Rattle.kasa_families.proofs.TableLemmas.{rows_of-some, rows_of-none}
use Rattle.kasa_tables.proofs.indexed.IndexedTablesRows.row.Goals as goal

pub returns : goal.returns
returns c = rw (rows_of-some c.args.self.now c.args.f c.in_ok-table.field-0.now c.in_ok-table.ensures) c.row.ensures

pub returns-in_err-table : goal.returns-in_err-table
returns-in_err-table c = rw (c.from_residual.ensures, rows_of-none c.args.self.now c.args.f c.in_err-table.ensures) refl
