use Rattle.std.proofs.Common.{◌≡◌, ℕ, [], length}
use Rattle.kasa_fixpoint.specs.Readers.{of_type}
use Rattle.kasa_fixpoint.proofs.readers.empty_lists.Given as goal

abbrev pub invariant-loop : goal.invariant-loop
invariant-loop l = record {
  size : length l.lists.items ≡ l.counter;
  empty : (a : ℕ) → of_type l.lists.items a ≡ [];
}
