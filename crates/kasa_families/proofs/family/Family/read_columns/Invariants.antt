use Rattle.std.proofs.Common.{◌≡◌, ℕ, ◌<◌, length}
use Rattle.std.specs.Prelude.{Some, slice_get}
use Rattle.kasa_families.specs.declared.shape.NodeSite.{NodeSite}
use Rattle.kasa_families.specs.Family.{shape_of}
use Rattle.kasa_families.proofs.family.Family.read_columns.Given as goal

abbrev pub invariant-loop-k : goal.invariant-loop-k
invariant-loop-k l = (length l.sites ≡ 16) × ((j : ℕ) (s : NodeSite) → j < l.k → slice_get (shape_of l.self).columns j ≡ Some s → slice_get l.sites j ≡ Some s)
