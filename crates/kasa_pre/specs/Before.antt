-- Patterns that can have stood before a rule fired, so that a given pattern v stands afterwards.
use Rattle.std.specs.Prelude.{◌≡◌, ◌≢◌, ℕ, zero, suc, ⊤, true, List, [], ◌∷◌, ◌++◌, length, Option, Some, None, MatchOption, slice_get}
use Rattle.kasa_graph.specs.declared.pattern.Node.{Node}
use Rattle.kasa_graph.specs.Signature.{TypeEntry}
use Rattle.kasa_graph.specs.declared.pattern.StateTest.{StateTest}
use Rattle.kasa_graph.specs.declared.pattern.LinkTest.{LinkTest}
use Rattle.kasa_graph.specs.declared.pattern.LinkTest.TheVariants as test
use Rattle.kasa_graph.specs.Lists.{Has}
use Rattle.kasa_graph.specs.Pattern.{agent_at, state_test, link_test, types_of, StateImplies, LinkImplies, IsPatternOver, Implies}
use Rattle.kasa_graph.specs.Embedding.{MeetsState}
use Rattle.kasa_rules.specs.declared.rule.Fate.TheVariants.{Kept}
use Rattle.kasa_rules.specs.declared.rule.End.{End}
use Rattle.kasa_rules.specs.declared.rule.End.TheVariants as «end»
use Rattle.kasa_rules.specs.declared.rule.Written.{Written}
use Rattle.kasa_rules.specs.declared.rule.Written.TheVariants.{Free, To}
use Rattle.kasa_rules.specs.Rule.{RuleParts, fate_at, written_state, written_link, made_type, made_state, made_link, touched, end_type}
use Rattle.kasa_pre.specs.declared.Stand.{Stand}
use Rattle.kasa_pre.specs.declared.Stand.TheVariants.{Left, Made, Outside}
use Rattle.kasa_pre.specs.declared.FreedBy.{FreedBy}
use Rattle.kasa_pre.specs.Place.{ImpliesAt}

-- ---- stands

-- a node of a type may have the stand
abbrev pub FitsStand : RuleParts → Stand → ℕ → Type 0
FitsStand r (Left n) a = (fate_at r n ≡ Some Kept) × (agent_at r.left n ≡ Some a)
FitsStand r (Made k) a = made_type r k ≡ Some a
FitsStand r Outside a = ⊤

-- a stand for each node, where no left node and no created agent stands twice
pub record AreStands (r : RuleParts) (v : List Node) (stands : List Stand) : Type 0 where
  pub count : length stands ≡ length v
  pub fit : (i a : ℕ) (stand : Stand) → slice_get stands i ≡ Some stand → agent_at v i ≡ Some a → FitsStand r stand a
  pub different : (i j : ℕ) (stand : Stand) → stand ≢ Outside → slice_get stands i ≡ Some stand → slice_get stands j ≡ Some stand → i ≡ j

-- the place before the firing of a node with a stand, where the nodes outside count from k on
abbrev pub place_from : ℕ → List Stand → ℕ → Option ℕ
place_from k [] i = None
place_from k (Left n ∷ stands) zero = Some n
place_from k (Made j ∷ stands) zero = None
place_from k (Outside ∷ stands) zero = Some k
place_from k (Outside ∷ stands) (suc i) = place_from (suc k) stands i
place_from k (Left n ∷ stands) (suc i) = place_from k stands i
place_from k (Made j ∷ stands) (suc i) = place_from k stands i

unfoldable pub place_of : RuleParts → List Stand → ℕ → Option ℕ
place_of r stands i = place_from (length r.left) stands i

-- the types of the nodes outside
abbrev pub outside_types : List Node → List Stand → List ℕ
outside_types (node ∷ v) (Outside ∷ stands) = node.agent ∷ outside_types v stands
outside_types (node ∷ v) (Left n ∷ stands) = outside_types v stands
outside_types (node ∷ v) (Made k ∷ stands) = outside_types v stands
outside_types (node ∷ v) [] = []
outside_types [] stands = []

abbrev pub stand_of : End → Stand
stand_of («end».Left n) = Left n
stand_of («end».Made k) = Made k

-- ---- what the rule writes at a node with a stand

abbrev pub state_written : RuleParts → Stand → ℕ → Option ℕ
state_written r (Left n) s = written_state r n s
state_written r (Made k) s = made_state r k s
state_written r Outside s = None

abbrev pub link_written : RuleParts → Stand → ℕ → Option Written
link_written r (Left n) s = written_link r n s
link_written r (Made k) s = Some (made_link r k s)
link_written r Outside s = None

-- a written link meets a test of v
abbrev pub WrittenMeets : RuleParts → List Stand → Written → LinkTest → Type 0
WrittenMeets r stands w test.Any = ⊤
WrittenMeets r stands Free test.Free = ⊤
WrittenMeets r stands (To e y) test.Bound = ⊤
WrittenMeets r stands (To e y) (test.Partner b z) = (end_type r e ≡ Some b) × (y ≡ z)
WrittenMeets r stands (To e y) (test.To j z) = (slice_get stands j ≡ Some (stand_of e)) × (y ≡ z)
WrittenMeets r stands _ _ = ⊥

-- ---- tests that the side effect makes true

abbrev pub IsFreed : List FreedBy → ℕ → ℕ → Type 0
IsFreed freed i s = (f : FreedBy) × Has freed f × (f.node ≡ i) × (f.site ≡ s)

-- each is a free test of v that the rule doesn't write, freed by a touched site
pub record AreFreed (r : RuleParts) (v : List Node) (stands : List Stand) (freed : List FreedBy) : Type 0 where
  pub free : (f : FreedBy) → Has freed f → link_test v f.node f.site ≡ test.Free
  pub unwritten : (f : FreedBy) → Has freed f → (stand : Stand) × (slice_get stands f.node ≡ Some stand) × (link_written r stand f.site ≡ None)
  pub by_touched : (f : FreedBy) → Has freed f → touched r f.from f.at ≡ true

-- ---- the pattern before

-- a state test of v at a node with a stand: what is written there meets it, or else g implies it at the node's place
abbrev pub StateBefore : RuleParts → List Node → Option ℕ → Stand → ℕ → StateTest → Type 0
StateBefore r g place (Left n) s test = MatchOption (written_state r n s) (StateImplies (state_test g n s) test) (λ u. MeetsState (Some u) test)
StateBefore r g place (Made k) s test = MeetsState (made_state r k s) test
StateBefore r g place Outside s test = (p : ℕ) × (place ≡ Some p) × StateImplies (state_test g p s) test

-- the same for a link test
abbrev pub LinkBefore : RuleParts → List Node → List Stand → Option ℕ → Stand → ℕ → LinkTest → Type 0
LinkBefore r g stands place (Left n) s test = MatchOption (written_link r n s) (ImpliesAt g (place_of r stands) (link_test g n s) test) (λ w. WrittenMeets r stands w test)
LinkBefore r g stands place (Made k) s test = WrittenMeets r stands (made_link r k s) test
LinkBefore r g stands place Outside s test = (p : ℕ) × (place ≡ Some p) × ImpliesAt g (place_of r stands) (link_test g p s) test

-- g can have stood before the rule fired, where v stands afterwards with these stands, and the side effect made
-- just these tests of v true: the stands fit, and g has the left nodes and then the nodes outside, and implies the left pattern
pub record IsBefore (sig : List TypeEntry) (r : RuleParts) (v : List Node) (stands : List Stand) (freed : List FreedBy) (g : List Node) : Type 0 where
  pub stand : AreStands r v stands
  pub valid : IsPatternOver sig g
  pub types : types_of g ≡ types_of r.left ++ outside_types v stands
  pub left_states : (n s : ℕ) → StateImplies (state_test g n s) (state_test r.left n s)
  pub left_links : (n s : ℕ) → LinkImplies g (link_test g n s) (link_test r.left n s)
  pub states : (i s : ℕ) (stand : Stand) → slice_get stands i ≡ Some stand → StateBefore r g (place_of r stands i) stand s (state_test v i s)
  pub links : (i s : ℕ) (stand : Stand) → slice_get stands i ≡ Some stand → ¬ IsFreed freed i s → LinkBefore r g stands (place_of r stands i) stand s (link_test v i s)
  pub sources : (f : FreedBy) → Has freed f → (p : ℕ) → place_of r stands f.node ≡ Some p → link_test g p f.site ≡ test.To f.from f.at

-- g is the most general pattern that can have stood before
pub record IsMostGeneralBefore (sig : List TypeEntry) (r : RuleParts) (v : List Node) (stands : List Stand) (freed : List FreedBy) (g : List Node) : Type 0 where
  pub before : IsBefore sig r v stands freed g
  pub most_general : (h : List Node) → IsBefore sig r v stands freed h → Implies h g
