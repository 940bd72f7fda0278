-- The rows of a family that a rule yields from tables, as lists of them, and the first that tables lack.
use Rattle.std.specs.Prelude.{◌≡◌, ℕ, ◌≤◌, ◌⊎◌, List, suc, length, Some, slice_get}
use Rattle.kasa_graph.specs.Signature.{TypeEntry}
use Rattle.kasa_graph.specs.Lists.{Has, AllDifferent}
use Rattle.kasa_families.specs.declared.family.Family.{Family}
use Rattle.kasa_families.specs.declared.row.Row.{Row}
use Rattle.kasa_families.specs.Row.{IsRow, IsRowBelow}
use Rattle.kasa_families.specs.Table.{Table, families_of, rows_of}
use Rattle.kasa_rules.specs.Rule.{RuleParts}
use Rattle.kasa_pre.specs.Yields.{Yields}

-- a valid row of the family of a number, which the rule yields from the tables
pub record IsResult (sig : List TypeEntry) (tables : List Table) (r : RuleParts) (f : ℕ) (row : Row) : Type 0 where
  pub family : Family
  pub numbered : slice_get (families_of tables) f ≡ Some family
  pub valid : IsRow sig family row
  pub yielded : Yields sig tables r family row

-- all such rows, each once, where they are at most `most`, and else so many of them and one more
pub record AreResults (sig : List TypeEntry) (tables : List Table) (r : RuleParts) (f most : ℕ) (rows : List Row) : Type 0 where
  pub different : AllDifferent rows
  pub results : (row : Row) → Has rows row → IsResult sig tables r f row
  pub complete : length rows ≤ most → (row : Row) → IsResult sig tables r f row → Has rows row
  pub few : length rows ≤ suc most

-- such a row that the tables don't have
abbrev pub IsMissing : List TypeEntry → List Table → RuleParts → ℕ → Row → Type 0
IsMissing sig tables r f row = IsResult sig tables r f row × (¬ Has (rows_of tables f) row)

-- all of these, each once, where they are at most `most`, so that nothing else is yielded but what the tables have; and
-- else so many of them and one more
pub record AreNewResults (sig : List TypeEntry) (tables : List Table) (r : RuleParts) (f most : ℕ) (rows : List Row) : Type 0 where
  pub different : AllDifferent rows
  pub missing : (row : Row) → Has rows row → IsMissing sig tables r f row
  pub complete : length rows ≤ most → (row : Row) → IsResult sig tables r f row → Has (rows_of tables f) row ⊎ Has rows row
  pub few : length rows ≤ suc most

-- the least of them in row order
abbrev pub IsFirstMissing : List TypeEntry → List Table → RuleParts → ℕ → Row → Type 0
IsFirstMissing sig tables r f row = IsMissing sig tables r f row × ((other : Row) → IsMissing sig tables r f other → (row ≡ other) ⊎ IsRowBelow row other)
