use Rattle.std.proofs.Common.{◌≡◌, ℕ, ◌<◌}
use Rattle.std.specs.Prelude.{Some, slice_get}
use Rattle.kasa_families.specs.declared.shape.Bond.{Bond}
use Rattle.kasa_families.specs.Family.{shape_of}
use Rattle.kasa_columns.specs.Stands.{LeavesBond}
use Rattle.kasa_columns.proofs.stands.leaves_bonds.Given as goal

abbrev pub invariant-loop-k : goal.invariant-loop-k
invariant-loop-k l = (j : ℕ) → j < l.k → (b : Bond) → slice_get (shape_of l.family).bonds j ≡ Some b → LeavesBond l.rule l.stands b
