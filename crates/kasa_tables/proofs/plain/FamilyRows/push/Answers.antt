use Rattle.std.proofs.Common.{rules}
use Rattle.kasa_tables.proofs.RowSets.{insert_new}
use Rattle.kasa_tables.proofs.plain.FamilyRows.push.Goals as goal

pub returns-clause-ok : goal.returns-clause-ok
returns-clause-ok c =
    rw (c.in_ok-insert.ensures.keys, insert_new c.self.inside.rows.keys c.args.row (rw (← c.self.view_is) at c.requires.new)) (search rules)
