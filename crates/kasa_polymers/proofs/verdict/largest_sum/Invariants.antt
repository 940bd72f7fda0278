use Rattle.std.proofs.Common.{ℕ}
use Rattle.std.specs.Prelude.{slice_index}
use Rattle.kasa_digraph.specs.Graph.{successors}
use Rattle.kasa_polymers.specs.inner.Bound.{AreCappedBy, IsLargestSum}
use Rattle.kasa_polymers.proofs.verdict.largest_sum.Given as goal

abbrev pub invariant-loop-a : goal.invariant-loop-a
invariant-loop-a g l = record {
  largest : (weight : ℕ → ℕ) → AreCappedBy weight l.values → IsLargestSum l.model (g.R.Rows.tables l.rows) (slice_index l.sites) weight (successors l.by_type) l.a l.most;
}
