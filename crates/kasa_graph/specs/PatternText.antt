-- The text of a pattern.
use Rattle.std.specs.Prelude.{ℕ, suc, ◌+◌, ◌||◌, ◌&&◌, Bool, true, false, List, [], ◌∷◌, ◌++◌, slice_get, nat_eq, nat_lt, codes, decimal, unwrap_or, if◌then◌else◌}
use Rattle.std.specs.List.{position_or_len, join_with_byte}
use Rattle.kasa_graph.specs.declared.pattern.StateTest.{StateTest}
use Rattle.kasa_graph.specs.declared.pattern.StateTest.TheVariants as state
use Rattle.kasa_graph.specs.declared.pattern.LinkTest.{LinkTest}
use Rattle.kasa_graph.specs.declared.pattern.LinkTest.TheVariants.{Any, Free, Bound, Partner, To}
use Rattle.kasa_graph.specs.declared.pattern.SiteTests.{SiteTests}
use Rattle.kasa_graph.specs.declared.pattern.Node.{Node}
use Rattle.kasa_lists.specs.Lists.{map_from}
use Rattle.kasa_graph.specs.Signature.{TypeEntry, type_names, site_names, state_names}

-- ---- bonds are numbered from 1 in the order in which they first stand in the text

-- the site (n, s) stands before (m, t)
abbrev pub stands_before : ℕ → ℕ → ℕ → ℕ → Bool
stands_before n s m t = nat_lt n m || (nat_eq n m && nat_lt s t)

-- the link of (n, s) is a bond that stands there for the first time
abbrev pub begins_bond : ℕ → ℕ → LinkTest → Bool
begins_bond n s (To m t) = stands_before n s m t
begins_bond n s _ = false

-- the sites where bonds first stand, in the order of the text: in one node from site s on, and in all nodes from n on
abbrev pub first_ends_in : ℕ → ℕ → List SiteTests → List (ℕ × ℕ)
first_ends_in n s [] = []
first_ends_in n s (x ∷ sites) = (if begins_bond n s x.link then (n, s) ∷ [] else []) ++ first_ends_in n (suc s) sites

abbrev pub first_ends : ℕ → List Node → List (ℕ × ℕ)
first_ends n [] = []
first_ends n (node ∷ g) = first_ends_in n 0 node.sites ++ first_ends (suc n) g

-- the place of a site among some, their number where it isn't there
abbrev pub place : ℕ × ℕ → List (ℕ × ℕ) → ℕ
place e ends = position_or_len (λ f. nat_eq e.0 f.0 && nat_eq e.1 f.1) ends

-- the number of the bond between two sites
abbrev pub bond_number : List Node → ℕ → ℕ → ℕ → ℕ → ℕ
bond_number g n s m t = 1 + place (if stands_before n s m t then (n, s) else (m, t)) (first_ends 0 g)

-- ---- texts

-- the name of this number, nothing where there is none
abbrev pub name_at : List (List ℕ) → ℕ → List ℕ
name_at names k = unwrap_or (slice_get names k) []

abbrev pub state_text : List TypeEntry → ℕ → ℕ → StateTest → List ℕ
state_text sig a s state.Any = []
state_text sig a s (state.Is u) = codes "{" ++ name_at (state_names sig a s) u ++ codes "}"

abbrev pub link_text : List TypeEntry → List Node → ℕ → ℕ → LinkTest → List ℕ
link_text sig g n s Any = []
link_text sig g n s Free = codes "[.]"
link_text sig g n s Bound = codes "[_]"
link_text sig g n s (Partner b y) = codes "[" ++ name_at (site_names sig b) y ++ codes "." ++ name_at (type_names sig) b ++ codes "]"
link_text sig g n s (To m t) = codes "[" ++ decimal (bond_number g n s m t) ++ codes "]"

-- a site is written where it has a test
abbrev pub tests_state : StateTest → Bool
tests_state state.Any = false
tests_state (state.Is u) = true

abbrev pub tests_link : LinkTest → Bool
tests_link Any = false
tests_link _ = true

abbrev pub is_written : SiteTests → Bool
is_written x = tests_state x.state || tests_link x.link

abbrev pub site_text : List TypeEntry → List Node → ℕ → ℕ → ℕ → SiteTests → List ℕ
site_text sig g n a s x = name_at (site_names sig a) s ++ state_text sig a s x.state ++ link_text sig g n s x.link

-- the texts of the written sites of node n, which has type a, from site s on
abbrev pub site_texts : List TypeEntry → List Node → ℕ → ℕ → ℕ → List SiteTests → List (List ℕ)
site_texts sig g n a s [] = []
site_texts sig g n a s (x ∷ sites) = (if is_written x then site_text sig g n a s x ∷ [] else []) ++ site_texts sig g n a (suc s) sites

abbrev pub comma_joined : List (List ℕ) → List ℕ
comma_joined texts = join_with_byte 44 texts

abbrev pub node_text : List TypeEntry → List Node → ℕ → Node → List ℕ
node_text sig g n node = name_at (type_names sig) node.agent ++ codes "(" ++ comma_joined (site_texts sig g n node.agent 0 node.sites) ++ codes ")"

-- the text of a pattern
unfoldable pub pattern_text : List TypeEntry → List Node → List ℕ
pattern_text sig g = comma_joined (map_from 0 (node_text sig g) g)
