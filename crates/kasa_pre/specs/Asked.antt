-- What a rule, a pattern v with stands, and a list of freed tests ask of a pattern before.
use Rattle.std.specs.Prelude.{◌≡◌, ℕ, ◌<◌, ⊤, List, [], ◌∷◌, ◌++◌, length, Option, Some, None, IsSome, slice_get, option_map}
use Rattle.kasa_graph.specs.declared.pattern.Node.{Node}
use Rattle.kasa_graph.specs.declared.pattern.LinkTest.{LinkTest}
use Rattle.kasa_graph.specs.declared.pattern.LinkTest.TheVariants as test
use Rattle.kasa_graph.specs.Signature.{TypeEntry}
use Rattle.kasa_graph.specs.Lists.{Has}
use Rattle.kasa_graph.specs.Pattern.{state_test, link_test, types_of, blank_node, HasNodeSite, IsPatternOver}
use Rattle.kasa_rules.specs.Rule.{RuleParts, IsRuleOver, made_site}
use Rattle.kasa_pre.specs.declared.Stand.{Stand}
use Rattle.kasa_pre.specs.declared.Stand.TheVariants.{Left, Made, Outside}
use Rattle.kasa_pre.specs.declared.FreedBy.{FreedBy}
use Rattle.kasa_pre.specs.Place.{ImpliesAt}
use Rattle.kasa_pre.specs.Before.{AreStands, place_of, outside_types, IsFreed, StateBefore, LinkBefore}

-- the node or the created agent that a stand names exists
abbrev pub StandExists : RuleParts → Stand → Type 0
StandExists r (Left n) = n < length r.left
StandExists r (Made k) = k < length r.made
StandExists r Outside = ⊤

abbrev pub StandsExist : RuleParts → List Stand → Type 0
StandsExist r stands = (i : ℕ) (stand : Stand) → slice_get stands i ≡ Some stand → StandExists r stand

-- a pattern has the left nodes and then those outside
pub record HasNodes (sig : List TypeEntry) (r : RuleParts) (v : List Node) (stands : List Stand) (g : List Node) : Type 0 where
  pub valid : IsPatternOver sig g
  pub types : types_of g ≡ types_of r.left ++ outside_types v stands

-- each node with its place
abbrev pub ArePlaces : RuleParts → List Stand → List (Option ℕ) → Type 0
ArePlaces r stands places = (length places ≡ length stands) × ((i : ℕ) → i < length stands → slice_get places i ≡ Some (place_of r stands i))

-- a rule, and a pattern whose nodes have fitting stands and places
pub record IsAsked (sig : List TypeEntry) (r : RuleParts) (v : List Node) (stands : List Stand) (places : List (Option ℕ)) : Type 0 where
  pub rule : IsRuleOver sig r
  pub over : IsPatternOver sig v
  pub stand : AreStands r v stands
  pub placed : ArePlaces r stands places

-- ---- what is asked of g

-- at a site of a node with a stand, and at all sites of a node
abbrev pub SiteBefore : RuleParts → List Node → List Stand → List FreedBy → ℕ → Stand → ℕ → List Node → Type 0
SiteBefore r v stands freed i stand s g =
    StateBefore r g (place_of r stands i) stand s (state_test v i s) × (¬ IsFreed freed i s → LinkBefore r g stands (place_of r stands i) stand s (link_test v i s))

abbrev pub NodeBefore : RuleParts → List Node → List Stand → List FreedBy → ℕ → List Node → Type 0
NodeBefore r v stands freed i g = (stand : Stand) → slice_get stands i ≡ Some stand → (s : ℕ) → SiteBefore r v stands freed i stand s g

-- by a freed test, and by all
abbrev pub SourceBefore : RuleParts → List Stand → FreedBy → List Node → Type 0
SourceBefore r stands f g = (p : ℕ) → place_of r stands f.node ≡ Some p → link_test g p f.site ≡ test.To f.from f.«at»

abbrev pub SourcesBefore : RuleParts → List Stand → List FreedBy → List Node → Type 0
SourcesBefore r stands freed g = (f : FreedBy) → Has freed f → SourceBefore r stands f g

abbrev pub NodesBefore : RuleParts → List Node → List Stand → List FreedBy → List Node → Type 0
NodesBefore r v stands freed g = (i : ℕ) → NodeBefore r v stands freed i g

-- ---- what the code reads

-- the site of a stand exists
abbrev pub HasStandSite : RuleParts → Stand → ℕ → Type 0
HasStandSite r (Left n) s = HasNodeSite r.left n s
HasStandSite r (Made k) s = IsSome (made_site r k s)
HasStandSite r Outside s = ⊤

-- a test of v, read at the places of its nodes, none where its node has no place
abbrev pub link_at : (ℕ → Option ℕ) → LinkTest → Option LinkTest
link_at place (test.To n t) = option_map (λ p. test.To p t) (place n)
link_at place test.Any = Some test.Any
link_at place test.Free = Some test.Free
link_at place test.Bound = Some test.Bound
link_at place (test.Partner b y) = Some (test.Partner b y)

-- g implies a link test of v at the place of a node
abbrev pub LinkAt : List Node → (ℕ → Option ℕ) → ℕ → ℕ → LinkTest → Type 0
LinkAt g place i s test = (p : ℕ) × (place i ≡ Some p) × ImpliesAt g place (link_test g p s) test

-- the node has its place in the new pattern, which has one more node where the stand is outside
abbrev pub IsPlaced : List TypeEntry → Stand → ℕ → List Node → List Node → Option ℕ → Type 0
IsPlaced sig (Left n) a old new place = (place ≡ Some n) × (new ≡ old)
IsPlaced sig (Made k) a old new place = (place ≡ None) × (new ≡ old)
IsPlaced sig Outside a old new place = (place ≡ Some (length old)) × (new ≡ old ++ blank_node sig a ∷ [])

-- two patterns test the same at each site
pub record SameTests (new old : List Node) : Type 0 where
  pub states : (n s : ℕ) → state_test new n s ≡ state_test old n s
  pub links : (n s : ℕ) → link_test new n s ≡ link_test old n s
