-- The rule that two sides say.
use Rattle.std.specs.Prelude.{ℕ, Bool, true, false, ◌&&◌, List, map, Option, Some, None, nat_eq, slice_get, option_and_then, if◌then◌else◌}
use Rattle.std.specs.Option.{option_map_or}
use Rattle.kasa_graph.specs.declared.pattern.StateTest.{StateTest}
use Rattle.kasa_graph.specs.declared.pattern.StateTest.TheVariants as state
use Rattle.kasa_graph.specs.declared.pattern.LinkTest.{LinkTest}
use Rattle.kasa_graph.specs.declared.pattern.LinkTest.TheVariants as link
use Rattle.kasa_graph.specs.Signature.{TypeEntry, state_counts}
use Rattle.kasa_graph.specs.declared.pattern.SiteTests.{SiteTests}
use Rattle.kasa_graph.specs.declared.pattern.Node.{Node}
use Rattle.kasa_graph.specs.Lists.{map_from}
use Rattle.kasa_rules.specs.declared.rule.Fate.{Fate}
use Rattle.kasa_rules.specs.declared.rule.Fate.TheVariants.{Deleted, Kept}
use Rattle.kasa_rules.specs.declared.rule.End.{End}
use Rattle.kasa_rules.specs.declared.rule.End.TheVariants as «end»
use Rattle.kasa_rules.specs.declared.rule.Written.{Written}
use Rattle.kasa_rules.specs.declared.rule.Written.TheVariants as written
use Rattle.kasa_rules.specs.declared.rule.SiteAction.{SiteAction}
use Rattle.kasa_rules.specs.declared.rule.NodeAction.{NodeAction}
use Rattle.kasa_rules.specs.declared.rule.MadeSite.{MadeSite}
use Rattle.kasa_rules.specs.declared.rule.MadeAgent.{MadeAgent}
use Rattle.kasa_rules.specs.Rule.{RuleParts}
use Rattle.kasa_rules.specs.Draft.{no_action}
use Rattle.kasa_compile.specs.declared.said.LinkSaid.{LinkSaid}
use Rattle.kasa_compile.specs.declared.said.LinkSaid.TheVariants as said
use Rattle.kasa_compile.specs.declared.said.SiteSaid.{SiteSaid}
use Rattle.kasa_compile.specs.declared.said.AgentSaid.{AgentSaid}
use Rattle.kasa_compile.specs.Sides.{SidesParts}
use Rattle.kasa_compile.specs.Bonds.{said_at, joined_to}
use Rattle.kasa_compile.specs.Complex.{state_given}

-- ---- the test of a left site

abbrev pub given_state : Option StateTest → StateTest
given_state None = state.Any
given_state (Some test) = test

abbrev pub left_state_test : Option SiteSaid → StateTest
left_state_test None = state.Any
left_state_test (Some s) = given_state s.state

-- `#` asks for nothing, and a label for the site that it joins
abbrev pub link_asked : List AgentSaid → ℕ × ℕ → Option LinkSaid → LinkTest
link_asked agents p None = link.Any
link_asked agents p (Some said.Any) = link.Any
link_asked agents p (Some said.Free) = link.Free
link_asked agents p (Some said.Bound) = link.Bound
link_asked agents p (Some (said.Partner b y)) = link.Partner b y
link_asked agents p (Some (said.Label number)) = let q = joined_to agents number p in link.To q.0 q.1

abbrev pub left_link_test : List AgentSaid → ℕ → Option SiteSaid → LinkTest
left_link_test agents n None = link.Any
left_link_test agents n (Some s) = link_asked agents (n, s.site) s.link

-- ---- what the right side of a kept site writes beside its left test

-- a state that differs from the left test is written; none given, or `#`, stays
abbrev pub is_state : StateTest → ℕ → Bool
is_state state.Any u = false
is_state (state.Is w) u = nat_eq w u

abbrev pub state_to_write : StateTest → Option StateTest → Option ℕ
state_to_write left None = None
state_to_write left (Some state.Any) = None
state_to_write left (Some (state.Is u)) = if is_state left u then None else Some u

abbrev pub is_free : LinkTest → Bool
is_free link.Free = true
is_free _ = false

-- the end of a place on the right
abbrev pub end_at : List End → ℕ → End
end_at ends k = option_map_or (λ e. e) (slice_get ends k) («end».Left 0)

-- the left test leads to this end and site
abbrev pub leads_to : LinkTest → End → ℕ → Bool
leads_to (link.To m t) («end».Left n) u = nat_eq m n && nat_eq t u
leads_to _ e u = false

-- `.` stays where the left is free; a label stays where the left leads to the same node and site; both are written
-- else; all others stay
abbrev pub link_to_write : SidesParts → ℕ × ℕ → LinkTest → Option LinkSaid → Option Written
link_to_write x p left (Some said.Free) = if is_free left then None else Some written.Free
link_to_write x p left (Some (said.Label number)) =
    let q = joined_to x.right number p in
    if leads_to left (end_at x.ends q.0) q.1 then None else Some (written.To (end_at x.ends q.0) q.1)
link_to_write x p left _ = None

abbrev pub state_written_by : StateTest → Option SiteSaid → Option ℕ
state_written_by left None = None
state_written_by left (Some s) = state_to_write left s.state

abbrev pub link_written_by : SidesParts → ℕ → LinkTest → Option SiteSaid → Option Written
link_written_by x k left None = None
link_written_by x k left (Some s) = link_to_write x (k, s.site) left s.link

-- ---- what a created site gets

abbrev pub link_to_make : SidesParts → ℕ × ℕ → Option LinkSaid → Written
link_to_make x p (Some (said.Label number)) = let q = joined_to x.right number p in written.To (end_at x.ends q.0) q.1
link_to_make x p _ = written.Free

abbrev pub link_made_by : SidesParts → ℕ → Option SiteSaid → Written
link_made_by x k None = written.Free
link_made_by x k (Some s) = link_to_make x (k, s.site) s.link

-- ---- the left pattern

-- the n-th agent's node, with what it asks for at each site of its type
abbrev pub site_asked : List AgentSaid → ℕ → AgentSaid → ℕ → ℕ → SiteTests
site_asked left n a s k = record { states = k; state = left_state_test (said_at a.sites s); link = left_link_test left n (said_at a.sites s) }

abbrev pub node_of : List TypeEntry → List AgentSaid → ℕ → AgentSaid → Node
node_of sig left n a = record { agent = a.agent; sites = map_from 0 (site_asked left n a) (state_counts sig a.agent) }

unfoldable pub nodes_of : List TypeEntry → List AgentSaid → List Node
nodes_of sig left = map_from 0 (node_of sig left) left

-- ---- what becomes of its nodes

-- what the k-th agent on the right says of a site, and its type
abbrev pub said_on_right : SidesParts → ℕ → ℕ → Option SiteSaid
said_on_right x k s = option_and_then (λ (b : AgentSaid). said_at b.sites s) (slice_get x.right k)

abbrev pub type_on_right : SidesParts → ℕ → ℕ
type_on_right x k = option_map_or (λ (b : AgentSaid). b.agent) (slice_get x.right k) 0

-- what it writes beside the left tests of a site
abbrev pub site_written : SidesParts → ℕ → ℕ → SiteTests → SiteAction
site_written x k s tests = record { state = state_written_by tests.state (said_on_right x k s); link = link_written_by x k tests.link (said_on_right x k s) }

abbrev pub fate_of : Option ℕ → Fate
fate_of None = Deleted
fate_of (Some k) = Kept

-- the node that is the k-th agent on the right stays, and one that is none is deleted
abbrev pub action_of : SidesParts → Node → Option ℕ → NodeAction
action_of x node None = record { fate = Deleted; sites = map (λ _. no_action) node.sites }
action_of x node (Some k) = record { fate = Kept; sites = map_from 0 (site_written x k) node.sites }

abbrev pub number_after : SidesParts → ℕ → Option ℕ
number_after x n = option_and_then (λ k. k) (slice_get x.after n)

-- ---- the agents that are created

abbrev pub site_made : SidesParts → ℕ → ℕ → ℕ → MadeSite
site_made x k s n = record { states = n; state = state_given (said_on_right x k s) n; link = link_made_by x k (said_on_right x k s) }

abbrev pub made_of : List TypeEntry → SidesParts → ℕ → MadeAgent
made_of sig x k = record { agent = type_on_right x k; sites = map_from 0 (site_made x k) (state_counts sig (type_on_right x k)) }

-- ---- the rule

-- the rule of these sides, under this name
unfoldable pub rule_of : List TypeEntry → List ℕ → SidesParts → RuleParts
rule_of sig name x = record {
  name = name;
  left = nodes_of sig x.left;
  actions = map_from 0 (λ n node. action_of x node (number_after x n)) (nodes_of sig x.left);
  made = map (made_of sig x) x.made;
}
