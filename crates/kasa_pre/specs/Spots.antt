-- Places of a family's root that begin with a given node.
use Rattle.std.specs.Prelude.{◌≡◌, ℕ, List, [], ◌∷◌, ◌++◌, Option, Some, None, slice_get}
use Rattle.kasa_graph.specs.declared.pattern.Node.{Node}
use Rattle.kasa_graph.specs.Signature.{TypeEntry}
use Rattle.kasa_graph.specs.Lists.{Has}
use Rattle.kasa_graph.specs.declared.pattern.LinkTest.TheVariants.{To}
use Rattle.kasa_graph.specs.Pattern.{agent_at, link_test}
use Rattle.kasa_families.specs.declared.shape.Bond.{Bond}
use Rattle.kasa_families.specs.declared.family.Family.{Family}
use Rattle.kasa_families.specs.declared.place.Spot.{Spot}
use Rattle.kasa_families.specs.Family.{root}
use Rattle.kasa_families.specs.declared.place.Place.{Place}
use Rattle.kasa_families.specs.Spot.{nodes_of, place_of}
use Rattle.kasa_families.specs.Table.{Table, families_of}
use Rattle.kasa_pre.specs.Place.{IsPlace}
use Rattle.kasa_pre.specs.Allowed.{HasCompatible}

-- the family's root stands at a place of g whose first node is n
pub record StandsFrom (sig : List TypeEntry) (family : Family) (g : List Node) (n : ℕ) (place : List ℕ) : Type 0 where
  pub stands : IsPlace (root sig family) g place
  pub first : slice_get place 0 ≡ Some n

-- from the places of a root's first nodes g leads along the bond to node m, which has the next type and is none of them
pub record Leads (g : List Node) (types place : List ℕ) (b : Bond) (m : ℕ) : Type 0 where
  pub from : ℕ
  pub placed : slice_get place b.first.node ≡ Some from
  pub link : link_test g from b.first.site ≡ To m b.second.site
  pub agent : ℕ
  pub typed : slice_get types b.second.node ≡ Some agent
  pub is : agent_at g m ≡ Some agent
  pub new : ¬ Has place m

-- an answer: a node to which it leads, none where there is none
abbrev pub IsNext : List Node → List ℕ → List ℕ → Bond → Option ℕ → Type 0
IsNext g types place b None = (m : ℕ) → ¬ Leads g types place b m
IsNext g types place b (Some m) = Leads g types place b m

-- an answer: the place with that node behind, none where there is none
abbrev pub IsFollowed : List Node → List ℕ → List ℕ → Bond → Option Place → Type 0
IsFollowed g types place b None = (m : ℕ) → ¬ Leads g types place b m
IsFollowed g types place b (Some next) = (m : ℕ) × Leads g types place b m × (nodes_of next ≡ place ++ m ∷ [])

-- the nodes of a place have the types
abbrev pub AreTyped : List Node → List ℕ → List ℕ → Type 0
AreTyped g types place = (i p a : ℕ) → slice_get place i ≡ Some p → slice_get types i ≡ Some a → agent_at g p ≡ Some a

-- the spot is the only such place, none where there is none
abbrev pub IsOnlySpot : List TypeEntry → Family → List Node → ℕ → Option Spot → Type 0
IsOnlySpot sig family g n None = (place : List ℕ) → ¬ StandsFrom sig family g n place
IsOnlySpot sig family g n (Some spot) = StandsFrom sig family g n (place_of g family spot) × ((place : List ℕ) → StandsFrom sig family g n place → place ≡ place_of g family spot)

-- at each such place some row of the family is compatible
abbrev pub IsAllowedFrom : List TypeEntry → List Table → List Node → ℕ → Family → Type 0
IsAllowedFrom sig tables g n family = (place : List ℕ) → StandsFrom sig family g n place → HasCompatible tables g family place

-- the same for the family of a number, and for all families
abbrev pub IsNumberAllowedFrom : List TypeEntry → List Table → List Node → ℕ → ℕ → Type 0
IsNumberAllowedFrom sig tables g n f = (family : Family) → slice_get (families_of tables) f ≡ Some family → IsAllowedFrom sig tables g n family

abbrev pub AreAllowedFrom : List TypeEntry → List Table → List Node → ℕ → Type 0
AreAllowedFrom sig tables g n = (family : Family) → Has (families_of tables) family → IsAllowedFrom sig tables g n family
