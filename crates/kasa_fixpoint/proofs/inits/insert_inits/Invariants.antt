use Rattle.std.proofs.Common.{◌≡◌, ℕ, ◌<◌, List}
use Rattle.std.specs.Prelude.{Option, Some, slice_get}
use Rattle.kasa_graph.specs.declared.mixture.Agent.{Agent}
use Rattle.kasa_pre.specs.Closed.{Cover}
use Rattle.kasa_fixpoint.specs.Steps.{IsStep}
use Rattle.kasa_fixpoint.proofs.inits.insert_inits.Given as goal

abbrev pub invariant-loop-init : goal.invariant-loop-init
invariant-loop-init l = record {
  step : IsStep l.model l.initial.tables l.tables;
  initial : (i : ℕ) → i < l.init-index → (m : List (Option Agent)) → slice_get l.model.inits i ≡ Some m → Cover l.model.sig l.tables m;
}
