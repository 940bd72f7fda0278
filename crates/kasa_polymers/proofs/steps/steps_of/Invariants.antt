use Rattle.std.proofs.Common.{◌≡◌, ◌<◌, ℕ, length}
use Rattle.std.specs.Prelude.{Some, slice_get}
use Rattle.kasa_digraph.specs.Graph.{successors}
use Rattle.kasa_polymers.specs.declared.map.Bond.{Bond}
use Rattle.kasa_polymers.specs.inner.Steps.{AreNumbers, IsStepAllowed}
use Rattle.kasa_polymers.proofs.steps.steps_of.Given as goal

abbrev pub invariant-loop-bond : goal.invariant-loop-bond
invariant-loop-bond g l = record {
  size : length l.steps.items ≡ l.bond-index;
  steps : (i : ℕ) (p : Bond) → i < l.bond-index → slice_get l.points i ≡ Some p → AreNumbers l.points (IsStepAllowed l.sig (g.R.Rows.tables l.rows) p) (successors l.steps.items i);
}
