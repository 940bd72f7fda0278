-- The text of tables in the midst of its steps.
use Rattle.std.specs.Prelude.{◌≡◌, ◌↔◌, ℕ, List, ◌++◌, Some, slice_get}
use Rattle.std.specs.List.{flat_map}
use Rattle.kasa_lists.specs.Lists.{Has}
use Rattle.kasa_families.specs.declared.row.Row.{Row}
use Rattle.kasa_families.specs.Row.{AreAscending}
use Rattle.kasa_families.specs.Table.{Table}
use Rattle.kasa_tabfile.specs.TablesText.{IsOrdered, AreOrdered, table_text}

-- the same rows, in row order
pub record AreInRowOrder (rows ordered : List Row) : Type 0 where
  pub same : (row : Row) → Has ordered row ↔ Has rows row
  pub ascend : AreAscending ordered

-- the text of the table of a number stands behind what stood before, and so does that of each table
abbrev pub AddsTable : List Table → ℕ → List ℕ → List ℕ → Type 0
AddsTable tables f old new = (t : Table) × (o : Table) × (slice_get tables f ≡ Some t) × IsOrdered t o × (new ≡ old ++ table_text o)

abbrev pub AddsTables : List Table → List ℕ → List ℕ → Type 0
AddsTables tables old new = (ordered : List Table) × AreOrdered tables ordered × (new ≡ old ++ flat_map table_text ordered)
