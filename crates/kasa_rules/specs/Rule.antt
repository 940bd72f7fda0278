-- Rules: a left pattern, what becomes of its nodes, and the agents that are created.
use Rattle.std.specs.Prelude.{◌≡◌, ◌≢◌, ℕ, ◌<◌, ◌≤◌, Bool, true, List, length, map, Option, Some, None, is_some, slice_get, option_map, option_and_then}
use Rattle.std.specs.Option.{option_map_or}
use Rattle.kasa_num.specs.declared.limits.TheConstants.{MAX_SIDE_AGENTS}
use Rattle.kasa_graph.specs.declared.pattern.Node.{Node}
use Rattle.kasa_graph.specs.Signature.{TypeEntry}
use Rattle.kasa_graph.specs.declared.pattern.LinkTest.TheVariants.{To}
use Rattle.kasa_graph.specs.Signature.{state_counts, HasState}
use Rattle.kasa_graph.specs.Pattern.{agent_at, link_test, IsPattern, IsPatternOver}
use Rattle.kasa_rules.specs.declared.rule.Fate.{Fate}
use Rattle.kasa_rules.specs.declared.rule.Fate.TheVariants.{Deleted, Kept}
use Rattle.kasa_rules.specs.declared.rule.End.{End}
use Rattle.kasa_rules.specs.declared.rule.End.TheVariants.{Left, Made}
use Rattle.kasa_rules.specs.declared.rule.Written.{Written}
use Rattle.kasa_rules.specs.declared.rule.Written.TheVariants.{Free, To}
use Rattle.kasa_rules.specs.declared.rule.SiteAction.{SiteAction}
use Rattle.kasa_rules.specs.declared.rule.NodeAction.{NodeAction}
use Rattle.kasa_rules.specs.declared.rule.MadeSite.{MadeSite}
use Rattle.kasa_rules.specs.declared.rule.MadeAgent.{MadeAgent}

pub record RuleParts : Type 0 where
  pub name : List ℕ
  pub left : List Node
  pub actions : List NodeAction
  pub made : List MadeAgent

-- ---- what a rule says

unfoldable pub fate_at : RuleParts → ℕ → Option Fate
fate_at r n = option_map (λ a. a.fate) (slice_get r.actions n)

unfoldable pub action_at : RuleParts → ℕ → ℕ → Option SiteAction
action_at r n s = option_and_then (λ a. slice_get a.sites s) (slice_get r.actions n)

-- the state and the link that are written at a site of a left node
unfoldable pub written_state : RuleParts → ℕ → ℕ → Option ℕ
written_state r n s = option_and_then (λ a. a.state) (action_at r n s)

unfoldable pub written_link : RuleParts → ℕ → ℕ → Option Written
written_link r n s = option_and_then (λ a. a.link) (action_at r n s)

-- a created agent's type, and the state and the link of its sites
unfoldable pub made_type : RuleParts → ℕ → Option ℕ
made_type r k = option_map (λ a. a.agent) (slice_get r.made k)

unfoldable pub made_site : RuleParts → ℕ → ℕ → Option MadeSite
made_site r k s = option_and_then (λ a. slice_get a.sites s) (slice_get r.made k)

unfoldable pub made_state : RuleParts → ℕ → ℕ → Option ℕ
made_state r k s = option_and_then (λ x. x.state) (made_site r k s)

unfoldable pub made_link : RuleParts → ℕ → ℕ → Written
made_link r k s = option_map_or (λ x. x.link) (made_site r k s) Free

-- the node is deleted, or its link is written
abbrev pub touches : Option Fate → Option Written → Bool
touches (Some Deleted) link = true
touches (Some Kept) link = is_some link
touches None link = is_some link

unfoldable pub touched : RuleParts → ℕ → ℕ → Bool
touched r n s = touches (fate_at r n) (written_link r n s)

-- the type of an end, and the link that is written or created there
abbrev pub end_type : RuleParts → End → Option ℕ
end_type r (Left n) = agent_at r.left n
end_type r (Made k) = made_type r k

abbrev pub end_link : RuleParts → End → ℕ → Option Written
end_link r (Left n) s = written_link r n s
end_link r (Made k) s = option_map (λ x. x.link) (made_site r k s)

-- ---- what makes a rule

-- a written link is free or leads to a kept or a created node; it is mutual and never leads to itself; a created agent has all its states
pub record IsDraft (r : RuleParts) : Type 0 where
  pub left : IsPattern r.left
  pub actions : length r.actions ≡ length r.left
  pub deleted_state : (n s : ℕ) → fate_at r n ≡ Some Deleted → written_state r n s ≡ None
  pub deleted_link : (n s : ℕ) → fate_at r n ≡ Some Deleted → written_link r n s ≡ None
  pub both_ways : (e f : End) (s t : ℕ) → end_link r e s ≡ Some (To f t) → end_link r f t ≡ Some (To e s)
  pub apart : (e : End) (s : ℕ) → end_link r e s ≢ Some (To e s)
  pub made_within : (k s u : ℕ) (x : MadeSite) → made_site r k s ≡ Some x → x.state ≡ Some u → u < x.states
  pub made_given : (k s : ℕ) (x : MadeSite) → made_site r k s ≡ Some x → 0 < x.states → (u : ℕ) × (x.state ≡ Some u)

-- a bond of the left pattern is touched at both ends or at neither
abbrev pub HasWholeBonds : RuleParts → Type 0
HasWholeBonds r = (n s m t : ℕ) → link_test r.left n s ≡ To m t → touched r n s ≡ touched r m t

-- a rule is a draft with whole bonds
pub record IsRule (r : RuleParts) : Type 0 where
  pub draft : IsDraft r
  pub open draft use *
  pub whole_bonds : HasWholeBonds r

-- the numbers of a draft exist in the signature, and its nodes have just the sites of their types
pub record IsDraftOver (sig : List TypeEntry) (r : RuleParts) : Type 0 where
  pub left : IsPatternOver sig r.left
  pub action_sites : (n a : ℕ) (x : NodeAction) → slice_get r.actions n ≡ Some x → agent_at r.left n ≡ Some a → length x.sites ≡ length (state_counts sig a)
  pub written_states : (n s u a : ℕ) → agent_at r.left n ≡ Some a → written_state r n s ≡ Some u → HasState sig a s u
  pub made_types : (k a : ℕ) → made_type r k ≡ Some a → a < length sig
  pub made_sites : (k : ℕ) (x : MadeAgent) → slice_get r.made k ≡ Some x → map (λ s. s.states) x.sites ≡ state_counts sig x.agent

-- the same of a rule
pub record IsRuleOver (sig : List TypeEntry) (r : RuleParts) : Type 0 where
  pub is_rule : IsRule r
  pub over : IsDraftOver sig r
  pub open over use *

-- the left nodes and the created agents are within their limit
pub record HasFewAgents (r : RuleParts) : Type 0 where
  pub few_left : length r.left ≤ MAX_SIDE_AGENTS
  pub few_made : length r.made ≤ MAX_SIDE_AGENTS
