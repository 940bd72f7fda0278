-- Signatures: types of agents with named sites, and the named states of these.
use Rattle.std.specs.Prelude.{◌≡◌, ℕ, ◌<◌, ◌≤◌, ◌⊎◌, List, [], ◌∷◌, ◌++◌, length, map, Some, slice_get}
use Rattle.std.specs.Option.{option_map_or}
use Rattle.std.specs.List.{AllByRecursion}
use Rattle.kasa_num.specs.declared.limits.TheConstants.{MAX_NAME_BYTES, MAX_TYPES, MAX_SITES, MAX_STATES}
use Rattle.kasa_lists.specs.Lists.{update, AllDifferent}

-- a site: its name, and the names of its states
pub record SiteEntry : Type 0 where
  pub name : List ℕ
  pub states : List (List ℕ)

-- a type of agents: its name, and its sites
pub record TypeEntry : Type 0 where
  pub name : List ℕ
  pub sites : List SiteEntry

-- the sites of a type, none where there is no such type
unfoldable pub sites_of : List TypeEntry → ℕ → List SiteEntry
sites_of sig a = option_map_or (λ t. t.sites) (slice_get sig a) []

-- the names of a site's states, none where there is no such site
unfoldable pub state_names : List TypeEntry → ℕ → ℕ → List (List ℕ)
state_names sig a x = option_map_or (λ s. s.states) (slice_get (sites_of sig a) x) []

-- the names of the types, and those of a type's sites
abbrev pub type_names : List TypeEntry → List (List ℕ)
type_names sig = map (λ t. t.name) sig

abbrev pub site_names : List TypeEntry → ℕ → List (List ℕ)
site_names sig a = map (λ s. s.name) (sites_of sig a)

-- how many states each site of a type has
unfoldable pub state_counts : List TypeEntry → ℕ → List ℕ
state_counts sig a = map (λ s. length s.states) (sites_of sig a)

-- the type has a site of this number
abbrev pub HasSite : List TypeEntry → ℕ → ℕ → Type 0
HasSite sig a x = x < length (state_counts sig a)

-- the site has a state of this number
abbrev pub HasState : List TypeEntry → ℕ → ℕ → ℕ → Type 0
HasState sig a x u = (k : ℕ) × (slice_get (state_counts sig a) x ≡ Some k) × (u < k)

-- ---- signatures with one more name

-- a signature with one more type, without sites
abbrev pub with_new_type : List TypeEntry → List ℕ → List TypeEntry
with_new_type sig name = sig ++ record { name = name; sites = [] } ∷ []

-- with one more site of a type, without states
abbrev pub with_new_site : List TypeEntry → ℕ → List ℕ → List TypeEntry
with_new_site sig a name = update sig a (λ t. record t { sites = t.sites ++ record { name = name; states = [] } ∷ [] })

-- with one more state of a site
abbrev pub with_state_name : List SiteEntry → ℕ → List ℕ → List SiteEntry
with_state_name sites x name = update sites x (λ s. record s { states = s.states ++ name ∷ [] })

abbrev pub with_new_state : List TypeEntry → ℕ → ℕ → List ℕ → List TypeEntry
with_new_state sig a x name = update sig a (λ t. record t { sites = with_state_name t.sites x name })

-- ---- what every signature keeps

-- an ASCII letter, a digit or `_`
abbrev pub IsNameByte : ℕ → Type 0
IsNameByte b = ((65 ≤ b) × (b ≤ 90)) ⊎ ((97 ≤ b) × (b ≤ 122)) ⊎ ((48 ≤ b) × (b ≤ 57)) ⊎ (b ≡ 95)

-- such bytes, and not too many
pub record IsName (name : List ℕ) : Type 0 where
  pub some : 0 < length name
  pub few : length name ≤ MAX_NAME_BYTES
  pub bytes : AllByRecursion IsNameByte name

-- different names, at most so many
pub record AreNames (most : ℕ) (names : List (List ℕ)) : Type 0 where
  pub differ : AllDifferent names
  pub few : length names ≤ most
  pub are_names : (k : ℕ) (name : List ℕ) → slice_get names k ≡ Some name → IsName name

-- types, the sites of a type and the states of a site are within their limits, each with names of their own
pub record IsSignature (sig : List TypeEntry) : Type 0 where
  pub types : AreNames MAX_TYPES (type_names sig)
  pub sites : (a : ℕ) → AreNames MAX_SITES (site_names sig a)
  pub states : (a x : ℕ) → AreNames MAX_STATES (state_names sig a x)
