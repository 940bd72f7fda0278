use Rattle.std.proofs.Common.{◌≡◌, ℕ, ◌<◌}
use Rattle.std.specs.Prelude.{Some, None, slice_get}
use Rattle.kasa_graph.specs.Lists.{Has}
use Rattle.kasa_families.specs.declared.row.Local.{Local}
use Rattle.kasa_columns.specs.declared.plan.Effect.{Effect}
use Rattle.kasa_columns.proofs.plan.may_be_freed.Given as goal

abbrev pub invariant-loop-k : goal.invariant-loop-k
invariant-loop-k l = (k : ℕ) → k < l.k → (e : Effect) (x : Local) → slice_get l.effects k ≡ Some e → slice_get l.shown k ≡ Some x → e.link ≡ None → ¬ Has l.links x.link
