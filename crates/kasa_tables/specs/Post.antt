-- The lists of a column, by local states.
use Rattle.std.specs.Prelude.{◌≡◌, ◌<◌, ⊤, ℕ, Bool, true, false, List, [], ◌∷◌, Option, Some, None, Vec, vec_len, vec_capacity, slice_get}
use Rattle.std.specs.Option.{option_map_or, unwrap_or}
use Rattle.std.specs.Map.{lookup}
use Rattle.std.specs.Global.{Global}
use Rattle.indexmap.specs.IndexMap.{IndexMap, get}
use Rattle.kasa_families.specs.declared.row.Local.{Local}
use Rattle.kasa_families.specs.contracts.row.LocalPartialEq.TheImpl as local

-- the test of equality on local states
abbrev pub local_eq : Local → Local → Bool
local_eq = (local.ghosts).eq

-- a list for each local state, and the local state whose list has room for one more
pub record ColumnView : Type 0 where
  pub lists : List (Local × List ℕ)
  pub ready : Option Local

-- the list of a local state, without numbers where there is none
abbrev pub post : ColumnView → Local → List ℕ
post v q = unwrap_or (lookup (local_eq q) v.lists) []

abbrev pub entry_of : Local × Vec ℕ Global → Local × List ℕ
entry_of e = (e.0, e.1.items)

abbrev pub list_of : Option (Vec ℕ Global) → List ℕ
list_of None = []
list_of (Some v) = v.items

-- the list of a local state, without numbers where the map has none
abbrev pub post_of : {S : Type 0} → IndexMap Local (Vec ℕ Global) S → Local → List ℕ
post_of m q = list_of (get local_eq m q)

-- the list of the local state, if one is named, has room for one more
abbrev pub HasRoom : {S : Type 0} → IndexMap Local (Vec ℕ Global) S → Option Local → Type 0
HasRoom m None = ⊤
HasRoom m (Some l) = (v : Vec ℕ Global) × (get local_eq m l ≡ Some v) × (vec_len v < vec_capacity v)

-- the number, if the test says so
abbrev pub number_if : Bool → ℕ → List ℕ
number_if true n = n ∷ []
number_if false n = []

-- the list of a local state in the column of a number
abbrev pub post_at : List ColumnView → ℕ → Local → List ℕ
post_at columns c q = option_map_or (λ v. post v q) (slice_get columns c) []

abbrev pub ready_at : List ColumnView → ℕ → Option Local
ready_at columns c = option_map_or (λ v. v.ready) (slice_get columns c) None

-- the local states have this one at a number
abbrev pub has_at : ℕ → Local → List Local → Bool
has_at c q locals = option_map_or (λ l. local_eq l q) (slice_get locals c) false
