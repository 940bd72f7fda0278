-- What the builder of a rule has made so far.
use Rattle.std.specs.Prelude.{◌≡◌, ◌≢◌, ℕ, ◌<◌, ◌≤◌, ◌⊎◌, ⊤, Bool, true, false, List, length, Option, Some, None, map, slice_get, option_and_then, if◌then◌else◌}
use Rattle.std.specs.Option.{option_map_or}
use Rattle.kasa_graph.specs.declared.pattern.StateTest.{StateTest}
use Rattle.kasa_graph.specs.declared.pattern.StateTest.TheVariants as state
use Rattle.kasa_graph.specs.declared.pattern.LinkTest.{LinkTest}
use Rattle.kasa_graph.specs.declared.pattern.LinkTest.TheVariants as link
use Rattle.kasa_graph.specs.declared.pattern.Node.{Node}
use Rattle.kasa_graph.specs.Signature.{TypeEntry, state_counts}
use Rattle.kasa_graph.specs.Pattern.{types_of, state_test, link_test, with_state, with_link, with_bond, IsPattern, HasNodeSite, IsNoBond}
use Rattle.kasa_compile.specs.declared.said.SiteSaid.{SiteSaid}
use Rattle.kasa_compile.specs.declared.said.AgentSaid.{AgentSaid}
use Rattle.kasa_graph.specs.Mixture.{first_state}
use Rattle.kasa_graph.specs.PatternText.{stands_before}
use Rattle.kasa_rules.specs.declared.rule.End.{End}
use Rattle.kasa_rules.specs.declared.rule.End.TheVariants as «end»
use Rattle.kasa_rules.specs.declared.rule.Written.{Written}
use Rattle.kasa_rules.specs.declared.rule.Written.TheVariants as written
use Rattle.kasa_rules.specs.Rule.{RuleParts, fate_at, written_state, made_state, made_type, end_link, IsDraftOver}
use Rattle.kasa_rules.specs.declared.rule.Fate.TheVariants.{Kept}
use Rattle.kasa_compile.specs.Valid.{AreSides}
use Rattle.kasa_rules.specs.Draft.{with_written_state, with_written_link, with_written_bond, new_agent, HasEndSite, IsOpen, IsUnwritten}
use Rattle.kasa_rules.specs.declared.rule.MadeAgent.{MadeAgent}
use Rattle.kasa_compile.specs.Sides.{SidesParts}
use Rattle.kasa_compile.specs.Complex.{state_given}
use Rattle.kasa_compile.specs.Bonds.{said_at, places_of, joined_to}
use Rattle.kasa_compile.specs.Rule.{left_state_test, left_link_test, is_state, state_written_by, link_to_write, link_written_by, link_to_make, link_made_by, end_at, fate_of, type_on_right}

-- the i-th site that the n-th agent names
pub record Says (agents : List AgentSaid) (n i : ℕ) (s : SiteSaid) : Type 0 where
  pub agent : AgentSaid
  pub is_agent : slice_get agents n ≡ Some agent
  pub is_site : slice_get agent.sites i ≡ Some s

-- ---- the left pattern

-- what the agents ask for at a site, nothing where there is no such agent
unfoldable pub state_asked_at : List AgentSaid → ℕ → ℕ → StateTest
state_asked_at agents n s = option_map_or (λ (a : AgentSaid). left_state_test (said_at a.sites s)) (slice_get agents n) state.Any

unfoldable pub link_asked_at : List AgentSaid → ℕ → ℕ → LinkTest
link_asked_at agents n s = option_map_or (λ (a : AgentSaid). left_link_test agents n (said_at a.sites s)) (slice_get agents n) link.Any

-- the nodes have the sites and states of their types
abbrev pub HasSitesOf : List TypeEntry → List Node → Type 0
HasSitesOf sig g = (n : ℕ) (node : Node) → slice_get g n ≡ Some node → map (λ x. x.states) node.sites ≡ state_counts sig node.agent

-- the pattern has the agents as its nodes, and at each site each test is still open or the one that is asked for
pub record IsAsking (sig : List TypeEntry) (agents : List AgentSaid) (g : List Node) : Type 0 where
  pub linked : IsPattern g
  pub types : types_of g ≡ map (λ a. a.agent) agents
  pub shaped : HasSitesOf sig g
  pub states : (n s : ℕ) → (state_test g n s ≡ state.Any) ⊎ (state_test g n s ≡ state_asked_at agents n s)
  pub links : (n s : ℕ) → (link_test g n s ≡ link.Any) ⊎ (link_test g n s ≡ link_asked_at agents n s)

-- at this site the pattern asks for what the agents ask for
pub record IsAsked (agents : List AgentSaid) (g : List Node) (n s : ℕ) : Type 0 where
  pub state : state_test g n s ≡ state_asked_at agents n s
  pub link : link_test g n s ≡ link_asked_at agents n s

-- h has the same nodes as g, and each of its tests is g's or the one that is asked for
pub record IsFurther (agents : List AgentSaid) (g h : List Node) : Type 0 where
  pub linked : IsPattern h
  pub types : types_of h ≡ types_of g
  pub shaped : (sig : List TypeEntry) → HasSitesOf sig g → HasSitesOf sig h
  pub states : (n s : ℕ) → (state_test h n s ≡ state_test g n s) ⊎ (state_test h n s ≡ state_asked_at agents n s)
  pub links : (n s : ℕ) → (link_test h n s ≡ link_test g n s) ⊎ (link_test h n s ≡ link_asked_at agents n s)

-- the link test may be put at this site: a bond where none of its two sites has a test, if it isn't there yet
abbrev pub MayAsk : List Node → ℕ → ℕ → LinkTest → Type 0
MayAsk g n s (link.To m t) = link_test g n s ≡ link.Any → HasNodeSite g m t × ((n ≡ m → s ≢ t) × IsNoBond (link_test g m t))
MayAsk g n s test = IsNoBond (link_test g n s)

-- the pattern with this state test at a site, if one is given
abbrev pub with_state_asked : List Node → ℕ → ℕ → Option StateTest → List Node
with_state_asked g n s None = g
with_state_asked g n s (Some test) = with_state g n s test

-- the pattern with this link test at a site, where a bond is put only if it isn't there yet
abbrev pub bond_if : LinkTest → List Node → ℕ → ℕ → ℕ → ℕ → List Node
bond_if link.Any g n s m t = with_bond g n s m t
bond_if _ g n s m t = g

unfoldable pub with_link_asked : List Node → ℕ → ℕ → LinkTest → List Node
with_link_asked g n s (link.To m t) = bond_if (link_test g n s) g n s m t
with_link_asked g n s test = with_link g n s test

-- ---- what the right side gives

-- the number on the right of a node or of a created agent, none where it is deleted
abbrev pub right_of : SidesParts → End → Option ℕ
right_of x («end».Left n) = option_and_then (λ o. o) (slice_get x.after n)
right_of x («end».Made j) = slice_get x.made j

abbrev pub of_right : {X : Type 0} → SidesParts → End → (ℕ → AgentSaid → Option X) → Option X
of_right x e f = option_and_then (λ k. option_and_then (f k) (slice_get x.right k)) (right_of x e)

-- the link that is to be written or created at a site, beside the left pattern
abbrev pub link_due_of : SidesParts → List Node → End → ℕ → ℕ → AgentSaid → Option Written
link_due_of x g («end».Left n) s k b = link_written_by x k (link_test g n s) (said_at b.sites s)
link_due_of x g («end».Made j) s k b = Some (link_made_by x k (said_at b.sites s))

unfoldable pub link_due : SidesParts → List Node → End → ℕ → Option Written
link_due x g e s = of_right x e (link_due_of x g e s)

-- the state that is to be written or created there
abbrev pub state_due_of : List TypeEntry → List Node → End → ℕ → AgentSaid → Option ℕ
state_due_of sig g («end».Left n) s b = state_written_by (state_test g n s) (said_at b.sites s)
state_due_of sig g («end».Made j) s b = option_and_then (state_given (said_at b.sites s)) (slice_get (state_counts sig b.agent) s)

unfoldable pub state_due : List TypeEntry → SidesParts → List Node → End → ℕ → Option ℕ
state_due sig x g e s = of_right x e (λ _. state_due_of sig g e s)

-- ---- what the draft has

abbrev pub state_now : RuleParts → End → ℕ → Option ℕ
state_now r («end».Left n) s = written_state r n s
state_now r («end».Made j) s = made_state r j s

-- ---- writes

-- the left test is this state
abbrev pub has_state : List Node → End → ℕ → ℕ → Bool
has_state g («end».Left n) s u = is_state (state_test g n s) u
has_state g («end».Made j) s u = false

-- the state that one site on the right gives: none where it is the left test's, or is left open
abbrev pub state_to_put : List Node → End → ℕ → Option StateTest → Option ℕ
state_to_put g e s None = None
state_to_put g e s (Some state.Any) = None
state_to_put g e s (Some (state.Is u)) = if has_state g e s u then None else Some u

abbrev pub with_state_due : RuleParts → End → ℕ → Option ℕ → RuleParts
with_state_due r e s None = r
with_state_due r e s (Some u) = with_written_state r e s u

-- one end comes before another: left nodes before created ones
abbrev pub end_before : End → ℕ → End → ℕ → Bool
end_before («end».Left n) s («end».Left m) t = stands_before n s m t
end_before («end».Left n) s («end».Made j) t = true
end_before («end».Made j) s («end».Left m) t = false
end_before («end».Made j) s («end».Made k) t = stands_before j s k t

-- the link that one site on the right gives
abbrev pub link_to_put : SidesParts → List Node → End → ℕ → SiteSaid → Option Written
link_to_put x g («end».Left n) k s = link_to_write x (k, s.site) (link_test g n s.site) s.link
link_to_put x g («end».Made j) k s = Some (link_to_make x (k, s.site) s.link)

abbrev pub with_free : RuleParts → End → ℕ → RuleParts
with_free r («end».Left n) s = with_written_link r («end».Left n) s written.Free
with_free r («end».Made j) s = r

abbrev pub with_bond_due : RuleParts → End → ℕ → End → ℕ → RuleParts
with_bond_due r e s f t = if end_before e s f t then with_written_bond r e s f t else r

-- the draft with a link at a site, where a bond is written at the end that comes first
abbrev pub with_link_due : RuleParts → End → ℕ → Option Written → RuleParts
with_link_due r e s None = r
with_link_due r e s (Some written.Free) = with_free r e s
with_link_due r e s (Some (written.To f t)) = with_bond_due r e s f t

abbrev pub MayFree : RuleParts → End → ℕ → Type 0
MayFree r («end».Left n) s = IsOpen r («end».Left n) s
MayFree r («end».Made j) s = ⊤

abbrev pub MayWrite : RuleParts → End → ℕ → Option Written → Type 0
MayWrite r e s None = ⊤
MayWrite r e s (Some written.Free) = MayFree r e s
MayWrite r e s (Some (written.To f t)) = end_before e s f t ≡ true → HasEndSite r f t × ((e ≡ f → s ≢ t) × (IsOpen r e s × IsOpen r f t))

-- a label of the k-th agent on the right joins a site of an agent on the right
pub record IsLinked (x : SidesParts) (p : ℕ × ℕ) (number : ℕ) : Type 0 where
  pub two : length (places_of number x.right) ≡ 2
  pub within : (joined_to x.right number p).0 < length x.ends

-- the state of a site before it is written: none at a left node, the first at a created one
abbrev pub first_of_right : List TypeEntry → ℕ → AgentSaid → Option ℕ
first_of_right sig s b = option_and_then first_state (slice_get (state_counts sig b.agent) s)

unfoldable pub state_open : List TypeEntry → SidesParts → End → ℕ → Option ℕ
state_open sig x («end».Left n) s = None
state_open sig x («end».Made j) s = of_right x («end».Made j) (λ _. first_of_right sig s)

-- what the builder knows of a draft at any time
pub record CanWrite (sig : List TypeEntry) (x : SidesParts) (g : List Node) (r : RuleParts) : Type 0 where
  pub sides : AreSides sig x
  pub over : IsDraftOver sig r
  pub left : r.left ≡ g
  pub types : types_of g ≡ map (λ a. a.agent) x.left
  pub kept : (n k : ℕ) → slice_get x.after n ≡ Some (Some k) → fate_at r n ≡ Some Kept
  pub made : (j k : ℕ) (b : AgentSaid) → slice_get x.made j ≡ Some k → slice_get x.right k ≡ Some b → made_type r j ≡ Some b.agent
  pub states : (e : End) (s : ℕ) → (state_now r e s ≡ state_open sig x e s) ⊎ (state_now r e s ≡ state_due sig x g e s)
  pub links : (e : End) (s : ℕ) → IsOpen r e s ⊎ (end_link r e s ≡ link_due x g e s)

-- h is r with some more writes: each state and link is r's or the one that is due
pub record IsLater (sig : List TypeEntry) (x : SidesParts) (g : List Node) (r h : RuleParts) : Type 0 where
  pub name : h.name ≡ r.name
  pub left : h.left ≡ r.left
  pub fates : (n : ℕ) → fate_at h n ≡ fate_at r n
  pub count : length h.made ≡ length r.made
  pub types : (j : ℕ) → made_type h j ≡ made_type r j
  pub states : (e : End) (s : ℕ) → (state_now h e s ≡ state_now r e s) ⊎ (state_now h e s ≡ state_due sig x g e s)
  pub links : (e : End) (s : ℕ) → (end_link h e s ≡ end_link r e s) ⊎ (end_link h e s ≡ link_due x g e s)

-- a site whose link isn't written yet: both ends are open, if a bond is to be written here
abbrev pub AwaitsLink : RuleParts → End → ℕ → Option Written → Type 0
AwaitsLink r e s (Some (written.To f t)) = end_before e s f t ≡ true → IsOpen r e s × IsOpen r f t
AwaitsLink r e s _ = IsOpen r e s

-- a site whose link is written: both ends have it, if a bond was to be written here
abbrev pub HasLink : SidesParts → List Node → RuleParts → End → ℕ → Option Written → Type 0
HasLink x g r e s (Some (written.To f t)) = end_before e s f t ≡ true → (end_link r e s ≡ link_due x g e s) × (end_link r f t ≡ link_due x g f t)
HasLink x g r e s _ = end_link r e s ≡ link_due x g e s

-- the state and the link of a site are written
pub record IsDone (sig : List TypeEntry) (x : SidesParts) (g : List Node) (r : RuleParts) (e : End) (s : ℕ) : Type 0 where
  pub state : state_now r e s ≡ state_due sig x g e s
  pub link : HasLink x g r e s (link_due x g e s)

-- the sites that the right side names from the i-th of the k-th agent on aren't written yet
abbrev pub AreAwaiting : SidesParts → List Node → RuleParts → ℕ → ℕ → Type 0
AreAwaiting x g r k i = (l j : ℕ) (s : SiteSaid) → ((k < l) ⊎ ((k ≡ l) × (i ≤ j))) → Says x.right l j s → AwaitsLink r (end_at x.ends l) s.site (link_due x g (end_at x.ends l) s.site)

-- ---- a draft in which nothing is written yet

abbrev pub made_agents : List TypeEntry → SidesParts → List ℕ → List MadeAgent
made_agents sig x numbers = map (λ k. new_agent sig (type_on_right x k)) numbers

-- the first nodes on the left have their fates, all others are kept, and nothing is written
pub record IsFresh (x : SidesParts) (name : List ℕ) (g : List Node) (i : ℕ) (r : RuleParts) : Type 0 where
  pub named : r.name ≡ name
  pub left : r.left ≡ g
  pub fates : (n : ℕ) (o : Option ℕ) → n < i → slice_get x.after n ≡ Some o → fate_at r n ≡ Some (fate_of o)
  pub kept : (n : ℕ) (o : Option ℕ) → i ≤ n → slice_get x.after n ≡ Some o → fate_at r n ≡ Some Kept
  pub unwritten : (n : ℕ) → IsUnwritten r n

-- all nodes on the left have their fates, and these agents are created
pub record IsBare (sig : List TypeEntry) (x : SidesParts) (name : List ℕ) (g : List Node) (numbers : List ℕ) (r : RuleParts) : Type 0 where
  pub named : r.name ≡ name
  pub left : r.left ≡ g
  pub fates : (n : ℕ) (o : Option ℕ) → slice_get x.after n ≡ Some o → fate_at r n ≡ Some (fate_of o)
  pub unwritten : (n : ℕ) → IsUnwritten r n
  pub made : r.made ≡ made_agents sig x numbers
