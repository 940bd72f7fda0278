use Rattle.std.proofs.Common.{◌≡◌, ℕ, [], length}
use Rattle.kasa_families.specs.declared.row.Local.{Local}
use Rattle.kasa_tables.specs.Post.{post_at}
use Rattle.kasa_tables.proofs.indexed_table.empty_columns.Given as goal

abbrev pub invariant-loop : goal.invariant-loop
invariant-loop l = record {
  width : length l.columns.items ≡ l.counter;
  empty : (c : ℕ) (q : Local) → post_at l.columns.items c q ≡ [];
}
