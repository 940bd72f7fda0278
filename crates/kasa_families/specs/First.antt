-- First numbers that have a property, and what is asked of families and rows by number.
use Rattle.std.specs.Prelude.{◌≡◌, ℕ, ◌<◌, ◌≤◌, List, Option, Some, None, slice_get}
use Rattle.kasa_graph.specs.declared.pattern.Node.{Node}
use Rattle.kasa_families.specs.declared.family.Family.{Family}
use Rattle.kasa_families.specs.declared.row.Row.{Row}
use Rattle.kasa_families.specs.declared.place.Spot.{Spot}
use Rattle.kasa_families.specs.Family.{family_types}
use Rattle.kasa_families.specs.Spot.{place_of}
use Rattle.kasa_families.specs.Compatible.{IsCompatible}
use Rattle.kasa_families.specs.Table.{Table, families_of, rows_of}

-- the least number at or after `from` that has the property, none where there is none
abbrev pub IsLeastFrom : (ℕ → Type 0) → ℕ → Option ℕ → Type 0
IsLeastFrom P from (Some k) = (from ≤ k) × P k × ((j : ℕ) → from ≤ j → j < k → ¬ P j)
IsLeastFrom P from None = (j : ℕ) → from ≤ j → ¬ P j

-- the row of a number of the family of a number is compatible with g at the spot
abbrev pub IsCompatibleRow : List Table → ℕ → List Node → Spot → ℕ → Type 0
IsCompatibleRow tables f g spot k =
    (family : Family) × (row : Row) × (slice_get (families_of tables) f ≡ Some family) × (slice_get (rows_of tables f) k ≡ Some row) × IsCompatible g family (place_of g family spot) row

-- the first node of the root of the family of a number has the type
abbrev pub IsRooted : List Table → ℕ → ℕ → Type 0
IsRooted tables a f = (family : Family) × (slice_get (families_of tables) f ≡ Some family) × (slice_get (family_types family) 0 ≡ Some a)
