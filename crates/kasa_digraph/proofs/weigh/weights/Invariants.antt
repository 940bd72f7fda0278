use Rattle.std.proofs.Common.{◌≡◌, ◌≤◌, ◌^◌, ℕ, take, length}
use Rattle.std.specs.Prelude.{slice_index}
use Rattle.kasa_digraph.specs.Graph.{successors}
use Rattle.kasa_digraph.specs.inner.Weigh.{AreWeighed}
use Rattle.kasa_digraph.proofs.weigh.weights.Given as goal

abbrev pub invariant-loop-p : goal.invariant-loop-p
invariant-loop-p l = record {
  size : length l.values.items ≡ length l.graph;
  few : (z : ℕ) → slice_index l.values.items z ≤ 2 ^ 64;
  weighed : AreWeighed (successors l.graph) (slice_index l.group) (slice_index l.counts) (take l.p-index l.order) l.values.items;
}
