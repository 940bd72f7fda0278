use Rattle.std.proofs.Common.{◌≡◌, ℕ, ◌<◌, List}
use Rattle.std.specs.Prelude.{Some, slice_get}
use Rattle.kasa_families.specs.Family.{shape_of}
use Rattle.kasa_pre.specs.declared.Stand.{Stand}
use Rattle.kasa_columns.specs.Forward.{LeavesBonds}
use Rattle.kasa_columns.proofs.walk.choices_for.Given as goal

abbrev pub invariant-loop-stands : goal.invariant-loop-stands
invariant-loop-stands g l = (k : ℕ) → k < l.stands-index → (stands : List Stand) → slice_get l.all k ≡ Some stands → LeavesBonds l.search.rule (shape_of l.search.family).bonds stands
