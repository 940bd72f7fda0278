use Rattle.std.proofs.Common.{◌≡◌, ℕ, length}
use Rattle.kasa_tables.specs.Index.{listed_in}
use Rattle.kasa_tables.proofs.roots.reach.Given as goal

abbrev pub invariant-loop : goal.invariant-loop
invariant-loop l = record {
  long : length l.lists.items ≡ l.counter;
  same : (a : ℕ) → listed_in l.lists.items a ≡ listed_in l.fn.lists.items a;
}
