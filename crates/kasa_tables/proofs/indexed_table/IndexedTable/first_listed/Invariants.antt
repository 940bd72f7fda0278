use Rattle.std.proofs.Common.{ℕ, ◌<◌, ◌≤◌, ◌-◌, length}
use Rattle.kasa_families.specs.Spot.{place_of}
use Rattle.kasa_tables.specs.Index.{IsMatch}
use Rattle.kasa_tables.proofs.indexed_table.IndexedTable.first_listed.Given as goal

abbrev pub invariant-loop-next : goal.invariant-loop-next
invariant-loop-next l = record {
  up : l.from ≤ l.next;
  none : (j : ℕ) → l.from ≤ j → j < l.next → ¬ IsMatch l.self.rows l.g l.self.family (place_of l.g l.self.family l.spot) j;
}

abbrev pub decreases-loop-next : goal.decreases-loop-next
decreases-loop-next l = length l.self.rows - l.next
