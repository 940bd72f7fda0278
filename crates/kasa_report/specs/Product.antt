-- Tables that are products: what they say of a family's sites is said of each site alone.
use Rattle.std.specs.Prelude.{◌≡◌, ℕ, List, length, Some, slice_get}
use Rattle.kasa_graph.specs.Lists.{Has}
use Rattle.kasa_families.specs.declared.family.Family.{Family}
use Rattle.kasa_families.specs.declared.family.Family.TheVariants.{Parallel}
use Rattle.kasa_families.specs.declared.row.Local.{Local}
use Rattle.kasa_families.specs.declared.row.Row.{Row}
use Rattle.kasa_families.specs.declared.row.Row.TheVariants.{Locals, Same, Different}
use Rattle.kasa_families.specs.Family.{shape_of}
use Rattle.kasa_families.specs.Table.{Table}

-- some row has a local state with the property at a position
abbrev pub SomeLocal : List Row → ℕ → (Local → Type 0) → Type 0
SomeLocal rows k P = (locals : List Local) × Has rows (Locals locals) × ((l : Local) × (slice_get locals k ≡ Some l) × P l)

-- each state and each link stands at its position in some row: not both in one, as they are separate columns
pub record IsMixed (rows : List Row) (columns : ℕ) (locals : List Local) : Type 0 where
  pub size : length locals ≡ columns
  pub states : (k : ℕ) (l : Local) → slice_get locals k ≡ Some l → SomeLocal rows k (λ other. other.state ≡ l.state)
  pub links : (k : ℕ) (l : Local) → slice_get locals k ≡ Some l → SomeLocal rows k (λ other. other.link ≡ l.link)

-- there is a row, and so is each that is mixed of them
pub record IsProductOf (columns : ℕ) (rows : List Row) : Type 0 where
  pub row : Row
  pub some : Has rows row
  pub every : (locals : List Local) → IsMixed rows columns locals → Has rows (Locals locals)

-- the table of a parallel family is one where it holds both rows
abbrev pub IsProductRows : Family → List Row → Type 0
IsProductRows (Parallel a x u b y w) rows = Has rows Same × Has rows Different
IsProductRows family rows = IsProductOf (length (shape_of family).columns) rows

abbrev pub IsProduct : Table → Type 0
IsProduct t = IsProductRows t.family t.rows
