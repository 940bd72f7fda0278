use Rattle.kasa_tables.proofs.RowSets.{is_among}
use Rattle.kasa_tables.proofs.indexed_table.IndexedTable.has.Goals as goal

pub returns : goal.returns
returns c = rw (← c.self.view_is) (rw c.contains.ensures (is_among c.self.inside.rows.keys c.args.row.now))
