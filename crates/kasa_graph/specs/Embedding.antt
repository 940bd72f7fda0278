-- Embeddings of a pattern in a mixture.
use Rattle.std.specs.Prelude.{◌≡◌, ℕ, ⊤, List, length, Option, Some, None, slice_get}
use Rattle.kasa_graph.specs.declared.pattern.StateTest.{StateTest}
use Rattle.kasa_graph.specs.declared.pattern.StateTest.TheVariants.{Any, Is}
use Rattle.kasa_graph.specs.declared.pattern.LinkTest.{LinkTest}
use Rattle.kasa_graph.specs.declared.pattern.LinkTest.TheVariants.{Any, Free, Bound, Partner, To}
use Rattle.kasa_graph.specs.declared.pattern.Node.{Node}
use Rattle.kasa_graph.specs.declared.mixture.Agent.{Agent}
use Rattle.kasa_lists.specs.Lists.{AllDifferent}
use Rattle.kasa_graph.specs.Pattern.{agent_at, state_test, link_test}
use Rattle.kasa_graph.specs.Mixture.{type_in, state_in, partner_in}

-- a state test is met by what stands at a site
abbrev pub MeetsState : Option ℕ → StateTest → Type 0
MeetsState at Any = ⊤
MeetsState at (Is u) = at ≡ Some u

-- a link test is met by the partner at a site, where the nodes of `To` lie on the given cells
abbrev pub MeetsLink : List (Option Agent) → List ℕ → Option (ℕ × ℕ) → LinkTest → Type 0
MeetsLink m cells at Any = ⊤
MeetsLink m cells at Free = at ≡ None
MeetsLink m cells at Bound = (d t : ℕ) × (at ≡ Some (d, t))
MeetsLink m cells at (Partner b y) = (d : ℕ) × (at ≡ Some (d, y)) × (type_in m d ≡ Some b)
MeetsLink m cells at (To n t) = (d : ℕ) × (at ≡ Some (d, t)) × (slice_get cells n ≡ Some d)

-- a cell has the type of a node and meets its tests
pub record FitsCell (g : List Node) (m : List (Option Agent)) (cells : List ℕ) (n c : ℕ) : Type 0 where
  pub agent : type_in m c ≡ agent_at g n
  pub states : (s : ℕ) → MeetsState (state_in m c s) (state_test g n s)
  pub links : (s : ℕ) → MeetsLink m cells (partner_in m c s) (link_test g n s)

-- the cells, one per node, are different and living, of the nodes' types, and meet every test
pub record IsEmbedding (g : List Node) (m : List (Option Agent)) (cells : List ℕ) : Type 0 where
  pub count : length cells ≡ length g
  pub different : AllDifferent cells
  pub types : (n c a : ℕ) → slice_get cells n ≡ Some c → agent_at g n ≡ Some a → type_in m c ≡ Some a
  pub states : (n c s : ℕ) → slice_get cells n ≡ Some c → MeetsState (state_in m c s) (state_test g n s)
  pub links : (n c s : ℕ) → slice_get cells n ≡ Some c → MeetsLink m cells (partner_in m c s) (link_test g n s)
