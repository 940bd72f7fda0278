use Rattle.kasa_tables.proofs.indexed_table.IndexedTable.first_compatible.Goals as goal

pub returns : goal.returns
returns c = rw (← c.self.view_is) (rw c.as_slice.ensures.keys at c.first_among.ensures)
