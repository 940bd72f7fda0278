use Rattle.kasa_tables.proofs.PostLemmas.{lists_are}
use Rattle.kasa_tables.proofs.column.Column.list.Goals as goal

pub returns-in-Some : goal.returns-in-Some
returns-in-Some c = rw (← c.self.view_is, lists_are c.self.inside.lists.entries c.args.local, ← c.in-Some.ensures.value) c.as_slice.ensures.value

pub returns-in-None : goal.returns-in-None
returns-in-None c = rw (← c.self.view_is, lists_are c.self.inside.lists.entries c.args.local, ← c.in-None.ensures.value)
