-- Where the root of a family stands in a pattern.
use Rattle.std.specs.Prelude.{◌≡◌, ℕ, ⊤, List, [], ◌∷◌, ◌++◌, Option, Some, None, slice_get}
use Rattle.std.specs.Option.{option_map_or}
use Rattle.kasa_graph.specs.declared.pattern.Node.{Node}
use Rattle.kasa_graph.specs.Signature.{TypeEntry}
use Rattle.kasa_graph.specs.Lists.{Has}
use Rattle.kasa_graph.specs.declared.pattern.LinkTest.{LinkTest}
use Rattle.kasa_graph.specs.declared.pattern.LinkTest.TheVariants.{Partner, To}
use Rattle.kasa_graph.specs.Pattern.{agent_at, link_test, HasNodeSite, LinkImplies}
use Rattle.kasa_families.specs.declared.family.Family.{Family}
use Rattle.kasa_families.specs.declared.family.Family.TheVariants.{Parallel}
use Rattle.kasa_families.specs.declared.shape.NodeSite.{NodeSite}
use Rattle.kasa_families.specs.declared.shape.Bond.{Bond}
use Rattle.kasa_families.specs.declared.place.Spot.{Spot}
use Rattle.kasa_families.specs.declared.place.Place.{Place}
use Rattle.kasa_families.specs.declared.place.Place.TheVariants.{One, Two, Three}
use Rattle.kasa_families.specs.Shape.{named}
use Rattle.kasa_families.specs.Family.{IsFamily, shape_of, root}
use Rattle.kasa_families.specs.Place.{IsPlace}

-- the nodes of a place
abbrev pub nodes_of : Place → List ℕ
nodes_of (One n) = n ∷ []
nodes_of (Two n m) = n ∷ m ∷ []
nodes_of (Three n m k) = n ∷ m ∷ k ∷ []

-- the nodes that a spot names
abbrev pub nodes_from : ℕ → Option ℕ → List ℕ
nodes_from n None = n ∷ []
nodes_from n (Some m) = n ∷ m ∷ []

-- the node to which a test leads, if it leads to one
abbrev pub led_to : LinkTest → List ℕ
led_to (To m t) = m ∷ []
led_to test = []

-- the node to which g leads along a bond, from the place of the bond's first node
abbrev pub led_along : List Node → List ℕ → Bond → List ℕ
led_along g place b = option_map_or (λ p. led_to (link_test g p b.first.site)) (slice_get place b.first.node) []

-- places, and behind them the nodes to which bonds lead, one after another
abbrev pub followed : List Node → List ℕ → List Bond → List ℕ
followed g place [] = place
followed g place (b ∷ bonds) = followed g (place ++ led_along g place b) bonds

-- the bonds between the nodes of a family's root; a parallel family's root is one node
abbrev pub root_bonds : Family → List Bond
root_bonds (Parallel a x u b y w) = []
root_bonds family = (shape_of family).bonds

abbrev pub later_bonds : List Bond → List Bond
later_bonds [] = []
later_bonds (b ∷ bonds) = bonds

-- the nodes of a spot, in the order of the root's nodes: it names two, and the later bonds lead to the others
abbrev pub place_of : List Node → Family → Spot → List ℕ
place_of g family spot = followed g (nodes_from spot.first spot.second) (later_bonds (root_bonds family))

-- g's tests at node n imply what the root asks there of partners that aren't nodes of it
abbrev pub AsksMet : List Node → Family → ℕ → Type 0
AsksMet g (Parallel a x u b y w) n = LinkImplies g (link_test g n x) (Partner b y) × LinkImplies g (link_test g n u) (Partner b w)
AsksMet g family n = ⊤

-- the root of the family, which is valid over some signature, stands at a place of g
pub record StandsAt (g : List Node) (family : Family) (place : List ℕ) : Type 0 where
  pub sig : List TypeEntry
  pub valid : IsFamily sig family
  pub stands : IsPlace (root sig family) g place

-- the family names a site of a type
abbrev pub NamesSite : Family → ℕ → ℕ → Type 0
NamesSite family c s = (t : NodeSite) × Has (named (shape_of family)) t × (slice_get (shape_of family).types t.node ≡ Some c) × (t.site ≡ s)

-- each site that the family names of a type exists in each node of that type
abbrev pub HasNamedSites : List Node → Family → Type 0
HasNamedSites g family = (n a s : ℕ) → agent_at g n ≡ Some a → NamesSite family a s → HasNodeSite g n s
