use Rattle.std.proofs.Common.{◌≡◌}
use Rattle.kasa_tables.specs.Insert.{empty_tables}
use Rattle.kasa_tables.proofs.plain.PlainTables.new.Given as goal

abbrev pub invariant-loop-family : goal.invariant-loop-family
invariant-loop-family l = l.tables.items ≡ empty_tables l.yielded
