use Rattle.std.proofs.Common.{◌≡◌, ℕ, ◌<◌}
use Rattle.std.specs.Prelude.{Some, slice_get}
use Rattle.kasa_columns.specs.declared.plan.Effect.{Effect}
use Rattle.kasa_columns.specs.Plan.{IsNoEffect}
use Rattle.kasa_columns.proofs.plan.are_none.Given as goal

abbrev pub invariant-loop-effect : goal.invariant-loop-effect
invariant-loop-effect l = (k : ℕ) → k < l.effect-index → (e : Effect) → slice_get l.effects k ≡ Some e → IsNoEffect e
