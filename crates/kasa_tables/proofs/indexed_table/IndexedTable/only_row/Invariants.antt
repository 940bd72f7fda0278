use Rattle.std.proofs.Common.{◌≡◌, length}
use Rattle.kasa_families.specs.Spot.{place_of}
use Rattle.kasa_tables.proofs.IndexLemmas.{AreOnly}
use Rattle.kasa_tables.proofs.indexed_table.IndexedTable.only_row.Given as goal

abbrev pub invariant-loop-c : goal.invariant-loop-c
invariant-loop-c l = record {
  long : length l.locals ≡ 16;
  only : AreOnly l.g l.self.family (place_of l.g l.self.family l.spot) l.columns l.locals l.c;
}
