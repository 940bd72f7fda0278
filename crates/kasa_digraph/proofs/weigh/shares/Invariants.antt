use Rattle.std.proofs.Common.{◌≡◌, ◌≤◌, ◌^◌, ℕ, take, length}
use Rattle.std.specs.Prelude.{slice_index}
use Rattle.kasa_digraph.specs.inner.Weigh.{shares_of}
use Rattle.kasa_digraph.proofs.weigh.shares.Given as goal

abbrev pub invariant-loop-q : goal.invariant-loop-q
invariant-loop-q l = record {
  size : length l.best.items ≡ l.count;
  best : l.best.items ≡ shares_of (slice_index l.group) (slice_index l.values) l.count (take l.q-index l.next);
  few : (z : ℕ) → slice_index l.best.items z ≤ 2 ^ 64;
}
