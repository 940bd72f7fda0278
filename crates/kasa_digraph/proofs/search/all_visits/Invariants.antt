use Rattle.std.proofs.Common.{◌≡◌, ◌<◌, ℕ, [], true}
use Rattle.kasa_digraph.specs.Graph.{has}
use Rattle.kasa_digraph.specs.inner.Search.{leaves, visits}
use Rattle.kasa_digraph.proofs.search.all_visits.Given as goal

abbrev pub invariant-loop-p : goal.invariant-loop-p
invariant-loop-p l = record {
  leaves : leaves l.tasks.items ≡ [];
  all : (x : ℕ) → x < l.p → has (visits l.tasks.items) x ≡ true;
  within : (x : ℕ) → has (visits l.tasks.items) x ≡ true → x < l.p;
}
