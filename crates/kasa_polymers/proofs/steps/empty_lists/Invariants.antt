use Rattle.std.proofs.Common.{◌≡◌, ℕ, false, length}
use Rattle.kasa_digraph.specs.Graph.{has, successors}
use Rattle.kasa_polymers.proofs.steps.empty_lists.Given as goal

abbrev pub invariant-loop-list : goal.invariant-loop-list
invariant-loop-list l = record {
  size : length l.lists.items ≡ l._list;
  none : (a j : ℕ) → has (successors l.lists.items a) j ≡ false;
}
