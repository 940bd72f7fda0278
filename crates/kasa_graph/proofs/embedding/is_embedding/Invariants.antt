use Rattle.std.proofs.Common.{◌≡◌, ℕ, ◌<◌}
use Rattle.std.specs.Prelude.{Some, slice_get}
use Rattle.kasa_graph.specs.Embedding.{FitsCell}
use Rattle.kasa_graph.proofs.embedding.is_embedding.Given as goal

abbrev pub invariant-loop-node : goal.invariant-loop-node
invariant-loop-node l = (k c : ℕ) → k < l.node → slice_get l.ids k ≡ Some c → FitsCell l.pattern l.mixture l.ids k c
