use Rattle.std.proofs.Common.{rules, arith}
use Rattle.kasa_tables.proofs.column.reserve_one.Goals as goal

pub returns-in-Some-clause-ok : goal.returns-in-Some-clause-ok
returns-in-Some-clause-ok c = (c.reserve.new.self, search rules, omega (arith, c.in_ok-reserve.ensures.ok))

pub returns-clause-ok : goal.returns-clause-ok
returns-clause-ok c = (c.in_ok-list.list, c.in_ok-insert.ensures.updates.1, omega (arith, c.in_ok-list.ensures.exact, c.in_ok-list.ensures.len))
