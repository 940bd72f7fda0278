use Rattle.kasa_tables.proofs.PostLemmas.{lists_are}
use Rattle.kasa_tables.proofs.column.Column.reserve.Goals as goal

pub returns-in_err-reserve_one-clause-same : goal.returns-in_err-reserve_one-clause-same
returns-in_err-reserve_one-clause-same c = λ q. rw (lists_are c.reserve_one.new.lists.entries q, ← c.self.view_is, lists_are c.self.inside.lists.entries q) (c.reserve_one.ensures.same q)

pub returns-clause-same : goal.returns-clause-same
returns-clause-same c = λ q. rw (lists_are c.reserve_one.new.lists.entries q, ← c.self.view_is, lists_are c.self.inside.lists.entries q) (c.reserve_one.ensures.same q)
