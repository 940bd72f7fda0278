use Rattle.std.proofs.Common.{◌≡◌, ◌<◌, ℕ, Some}
use Rattle.std.specs.Prelude.{slice_get}
use Rattle.kasa_families.specs.Table.{families_of}
use Rattle.kasa_tabfile.proofs.taking.has_family.Given as goal

abbrev pub invariant-loop-f : goal.invariant-loop-f
invariant-loop-f l = (k : ℕ) → k < l.f → slice_get (families_of l.tables) k ≡ Some l.family → ⊥
