use Rattle.std.proofs.Common.{◌≡◌, ℕ, true, take}
use Rattle.kasa_digraph.specs.Graph.{has}
use Rattle.kasa_digraph.specs.inner.Search.{is_seen}
use Rattle.kasa_digraph.proofs.search.are_done.Given as goal

abbrev pub invariant-loop-q : goal.invariant-loop-q
invariant-loop-q l = record {
  done : (x : ℕ) → has (take l.q-index l.next) x ≡ true → is_seen l.done x ≡ true;
}
