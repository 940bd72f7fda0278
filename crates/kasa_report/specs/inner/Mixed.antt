-- What rows can be mixed of: their states and their links at each position.
use Rattle.std.specs.Prelude.{◌≡◌, ◌↔◌, ℕ, List, length, Option, None, slice_get}
use Rattle.kasa_graph.specs.Lists.{Has, AllDifferent}
use Rattle.kasa_families.specs.declared.row.Local.{Local}
use Rattle.kasa_families.specs.declared.row.LocalLink.{LocalLink}
use Rattle.kasa_families.specs.declared.row.Row.{Row}
use Rattle.kasa_families.specs.declared.row.Row.TheVariants.{Locals, Same, Different}
use Rattle.kasa_report.specs.Product.{SomeLocal}

-- the local state of a row at a position
abbrev pub local_of : Row → ℕ → Option Local
local_of (Locals locals) k = slice_get locals k
local_of Same k = None
local_of Different k = None

-- each row is of so many local states
abbrev pub IsWide : Row → ℕ → Type 0
IsWide (Locals locals) columns = length locals ≡ columns
IsWide Same columns = ⊥
IsWide Different columns = ⊥

abbrev pub AreWide : List Row → ℕ → Type 0
AreWide rows columns = (row : Row) → Has rows row → IsWide row columns

-- what rows have at a position, each once
pub record AreStatesAt (rows : List Row) (k : ℕ) (states : List (Option ℕ)) : Type 0 where
  pub different : AllDifferent states
  pub each : (s : Option ℕ) → Has states s ↔ SomeLocal rows k (λ l. l.state ≡ s)

pub record AreLinksAt (rows : List Row) (k : ℕ) (links : List LocalLink) : Type 0 where
  pub different : AllDifferent links
  pub each : (s : LocalLink) → Has links s ↔ SomeLocal rows k (λ l. l.link ≡ s)
