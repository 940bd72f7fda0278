use Rattle.std.proofs.Common.{refl}
use Rattle.kasa_families.proofs.TableLemmas.{rows_of-some, rows_of-none}
use Rattle.kasa_tables.proofs.indexed.IndexedTablesRows.rows.Goals as goal

pub returns-in-Some : goal.returns-in-Some
returns-in-Some c = rw (rows_of-some c.args.self.now c.args.f c.in-Some.table.now c.in-Some.ensures) c.len.ensures.len

pub returns-in-None : goal.returns-in-None
returns-in-None c = rw (rows_of-none c.args.self.now c.args.f c.in-None.ensures) refl
