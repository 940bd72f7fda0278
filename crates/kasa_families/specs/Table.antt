-- Tables: families, each with a set of rows.
use Rattle.std.specs.Prelude.{◌≡◌, ℕ, ◌≤◌, ⊤, List, [], length, map, slice_get}
use Rattle.std.specs.List.{sum_by}
use Rattle.std.specs.Option.{option_map_or}
use Rattle.kasa_graph.specs.Signature.{TypeEntry}
use Rattle.kasa_graph.specs.Lists.{Has, AllDifferent}
use Rattle.kasa_families.specs.declared.family.Family.{Family}
use Rattle.kasa_families.specs.declared.row.Row.{Row}
use Rattle.kasa_families.specs.declared.family.Family.TheVariants.{Parallel}
use Rattle.kasa_families.specs.declared.row.Row.TheVariants.{Locals}
use Rattle.kasa_families.specs.Family.{IsFamily, shape_of}
use Rattle.kasa_families.specs.Row.{IsRow}

-- a family with the rows that are held of it
pub record Table : Type 0 where
  pub family : Family
  pub rows : List Row

-- the families of tables, in order
abbrev pub families_of : List Table → List Family
families_of tables = map (λ t. t.family) tables

-- the rows of the family of a number, none where there is no such family
unfoldable pub rows_of : List Table → ℕ → List Row
rows_of tables f = option_map_or (λ t. t.rows) (slice_get tables f) []

-- different valid families, each with different valid rows
pub record AreTables (sig : List TypeEntry) (tables : List Table) : Type 0 where
  pub different : AllDifferent (families_of tables)
  pub families : (t : Table) → Has tables t → IsFamily sig t.family
  pub rows_differ : (t : Table) → Has tables t → AllDifferent t.rows
  pub rows : (t : Table) → Has tables t → (row : Row) → Has t.rows row → IsRow sig t.family row

-- a row has the shape of a family's rows
abbrev pub HasShape : Family → Row → Type 0
HasShape (Parallel a x u b y w) (Locals locals) = ⊥
HasShape (Parallel a x u b y w) row = ⊤
HasShape family (Locals locals) = length locals ≡ length (shape_of family).columns
HasShape family row = ⊥

-- at most 8,000 different families, each with different rows of its shape, at most 200,000 rows in all
pub record AreShapedTables (tables : List Table) : Type 0 where
  pub different : AllDifferent (families_of tables)
  pub rows_differ : (t : Table) → Has tables t → AllDifferent t.rows
  pub shapes : (t : Table) → Has tables t → (row : Row) → Has t.rows row → HasShape t.family row
  pub few : length tables ≤ 8000
  pub few_rows : sum_by (λ t. length t.rows) tables ≤ 200000

-- the tables hold a row of a family
pub record Holds (tables : List Table) (family : Family) (row : Row) : Type 0 where
  pub table : Table
  pub among : Has tables table
  pub of_family : table.family ≡ family
  pub has_row : Has table.rows row

-- whatever the first tables hold, the second ones hold
abbrev pub IsWithin : List Table → List Table → Type 0
IsWithin first second = (family : Family) (row : Row) → Holds first family row → Holds second family row
