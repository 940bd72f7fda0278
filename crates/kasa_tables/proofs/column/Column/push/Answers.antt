use Rattle.kasa_tables.proofs.PostLemmas.{lists_are}
use Rattle.kasa_tables.proofs.column.Column.push.Goals as goal

pub returns : goal.returns
returns c = λ q. rw (lists_are c.push_one.new.lists.entries q, ← c.self.view_is, lists_are c.self.inside.lists.entries q) (c.push_one.ensures q)
