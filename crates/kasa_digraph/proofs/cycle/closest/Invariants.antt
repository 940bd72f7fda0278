use Rattle.std.proofs.Common.{◌≡◌, ℕ, true, take}
use Rattle.kasa_digraph.specs.Graph.{has}
use Rattle.kasa_digraph.specs.inner.Cycle.{IsBefore}
use Rattle.kasa_digraph.proofs.cycle.closest.Given as goal

abbrev pub invariant-loop-r : goal.invariant-loop-r
invariant-loop-r l = record {
  among : has l.points l.best ≡ true;
  least : (x : ℕ) → has (take l.r-index l.points) x ≡ true → IsBefore l.distances l.best x;
}
