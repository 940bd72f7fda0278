-- Patterns of site graphs: lists of nodes, with a state test and a link test at each site.
use Rattle.std.specs.Prelude.{◌≡◌, ◌≢◌, ℕ, ◌<◌, ⊤, List, length, map, IsSome, Option, Some, slice_get, option_map, option_and_then}
use Rattle.std.specs.Option.{option_map_or}
use Rattle.kasa_graph.specs.declared.pattern.StateTest.{StateTest}
use Rattle.kasa_graph.specs.declared.pattern.StateTest.TheVariants.{Any, Is}
use Rattle.kasa_graph.specs.declared.pattern.LinkTest.{LinkTest}
use Rattle.kasa_graph.specs.declared.pattern.LinkTest.TheVariants.{Any, Free, Bound, Partner, To}
use Rattle.kasa_graph.specs.declared.pattern.SiteTests.{SiteTests}
use Rattle.kasa_graph.specs.declared.pattern.Node.{Node}
use Rattle.kasa_graph.specs.Signature.{TypeEntry}
use Rattle.kasa_lists.specs.Lists.{update}
use Rattle.kasa_graph.specs.Signature.{state_counts, HasSite, HasState}

-- ---- what a pattern says

-- the type of a node
unfoldable pub agent_at : List Node → ℕ → Option ℕ
agent_at g n = option_map (λ node. node.agent) (slice_get g n)

-- a site of a node
unfoldable pub site_at : List Node → ℕ → ℕ → Option SiteTests
site_at g n s = option_and_then (λ node. slice_get node.sites s) (slice_get g n)

-- the tests at a site, which ask for nothing where there is no such site
unfoldable pub state_test : List Node → ℕ → ℕ → StateTest
state_test g n s = option_map_or (λ x. x.state) (site_at g n s) Any

unfoldable pub link_test : List Node → ℕ → ℕ → LinkTest
link_test g n s = option_map_or (λ x. x.link) (site_at g n s) Any

-- there is such a site
abbrev pub HasNodeSite : List Node → ℕ → ℕ → Type 0
HasNodeSite g n s = IsSome (site_at g n s)

-- the test is no bond to a node
abbrev pub IsNoBond : LinkTest → Type 0
IsNoBond (To m t) = ⊥
IsNoBond _ = ⊤

-- the types of the nodes
abbrev pub types_of : List Node → List ℕ
types_of g = map (λ node. node.agent) g

-- `To` is mutual, and never leads from a site to itself
pub record IsPattern (g : List Node) : Type 0 where
  pub both_ways : (n s m t : ℕ) → link_test g n s ≡ To m t → link_test g m t ≡ To n s
  pub apart : (n s : ℕ) → link_test g n s ≢ To n s

-- ---- patterns made of others

-- a site without tests, of so many states
abbrev pub blank_site : ℕ → SiteTests
blank_site k = record { states = k; state = Any; link = Any }

-- a node of a type, without tests
unfoldable pub blank_node : List TypeEntry → ℕ → Node
blank_node sig a = record { agent = a; sites = map blank_site (state_counts sig a) }

-- g with another test at one site
abbrev pub with_site : List Node → ℕ → ℕ → (SiteTests → SiteTests) → List Node
with_site g n s f = update g n (λ node. record node { sites = update node.sites s f })

unfoldable pub with_state : List Node → ℕ → ℕ → StateTest → List Node
with_state g n s test = with_site g n s (λ x. record x { state = test })

unfoldable pub with_link : List Node → ℕ → ℕ → LinkTest → List Node
with_link g n s test = with_site g n s (λ x. record x { link = test })

-- g with a bond between two sites
abbrev pub with_bond : List Node → ℕ → ℕ → ℕ → ℕ → List Node
with_bond g n s m t = with_link (with_link g n s (To m t)) m t (To n s)

-- ---- validity over a signature

-- the numbers of a pattern exist in the signature, and its nodes have just the sites and states of their types
pub record IsPatternOver (sig : List TypeEntry) (g : List Node) : Type 0 where
  pub linked : IsPattern g
  pub types : (n : ℕ) (node : Node) → slice_get g n ≡ Some node → node.agent < length sig
  pub sites : (n : ℕ) (node : Node) → slice_get g n ≡ Some node → map (λ x. x.states) node.sites ≡ state_counts sig node.agent
  pub states : (n s u a : ℕ) → agent_at g n ≡ Some a → state_test g n s ≡ Is u → HasState sig a s u
  pub partners : (n s b y : ℕ) → link_test g n s ≡ Partner b y → HasSite sig b y

-- ---- implied and contradicting tests

-- one state test implies another
abbrev pub StateImplies : StateTest → StateTest → Type 0
StateImplies a Any = ⊤
StateImplies (Is u) (Is w) = u ≡ w
StateImplies Any (Is w) = ⊥

-- one link test implies another, where the nodes of `To` are g's
abbrev pub LinkImplies : List Node → LinkTest → LinkTest → Type 0
LinkImplies g a Any = ⊤
LinkImplies g Free Free = ⊤
LinkImplies g Bound Bound = ⊤
LinkImplies g (Partner a x) Bound = ⊤
LinkImplies g (To m t) Bound = ⊤
LinkImplies g (Partner a x) (Partner b y) = (a ≡ b) × (x ≡ y)
LinkImplies g (To m t) (Partner b y) = (agent_at g m ≡ Some b) × (t ≡ y)
LinkImplies g (To m t) (To k u) = (m ≡ k) × (t ≡ u)
LinkImplies g _ _ = ⊥

-- two state tests don't contradict each other
abbrev pub StatesAgree : StateTest → StateTest → Type 0
StatesAgree (Is u) (Is w) = u ≡ w
StatesAgree _ _ = ⊤

-- two link tests don't contradict each other; two `To` agree only where they are equal
abbrev pub LinksAgree : List Node → LinkTest → LinkTest → Type 0
LinksAgree g Any b = ⊤
LinksAgree g Free Any = ⊤
LinksAgree g Free Free = ⊤
LinksAgree g Free _ = ⊥
LinksAgree g Bound Free = ⊥
LinksAgree g Bound _ = ⊤
LinksAgree g (Partner a x) Any = ⊤
LinksAgree g (Partner a x) Free = ⊥
LinksAgree g (Partner a x) Bound = ⊤
LinksAgree g (Partner a x) (Partner b y) = (a ≡ b) × (x ≡ y)
LinksAgree g (Partner a x) (To m t) = (agent_at g m ≡ Some a) × (t ≡ x)
LinksAgree g (To m t) Any = ⊤
LinksAgree g (To m t) Free = ⊥
LinksAgree g (To m t) Bound = ⊤
LinksAgree g (To m t) (Partner b y) = (agent_at g m ≡ Some b) × (t ≡ y)
LinksAgree g (To m t) (To k u) = (m ≡ k) × (t ≡ u)

-- h implies g: the same nodes, and each test of g is implied by h's
pub record Implies (h g : List Node) : Type 0 where
  pub types : types_of h ≡ types_of g
  pub states : (n s : ℕ) → StateImplies (state_test h n s) (state_test g n s)
  pub links : (n s : ℕ) → LinkImplies h (link_test h n s) (link_test g n s)
