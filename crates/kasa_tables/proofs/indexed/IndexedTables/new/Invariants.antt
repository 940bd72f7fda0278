use Rattle.std.proofs.Common.{◌≡◌}
use Rattle.kasa_tables.specs.Insert.{empty_tables}
use Rattle.kasa_tables.specs.Index.{AreRoots}
use Rattle.kasa_tables.proofs.indexed.IndexedTables.new.Given as goal

abbrev pub invariant-loop-family : goal.invariant-loop-family
invariant-loop-family l = record {
  tables : l.tables.items ≡ empty_tables l.yielded;
  roots : AreRoots l.tables.items l.roots;
}
