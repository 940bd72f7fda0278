-- The mixture after a rule fired on a list of cells, one per left node.
use Rattle.std.specs.Prelude.{◌≡◌, ◌≢◌, ◌⊎◌, ℕ, zero, suc, ◌+◌, Bool, true, false, List, [], ◌∷◌, ◌++◌, length, map, Option, Some, None, slice_get, nat_eq, option_map, option_and_then}
use Rattle.std.specs.Option.{option_map_or}
use Rattle.kasa_graph.specs.declared.mixture.Agent.{Agent}
use Rattle.kasa_graph.specs.declared.mixture.AgentSite.{AgentSite}
use Rattle.kasa_lists.specs.Lists.{map_from}
use Rattle.kasa_rules.specs.declared.rule.Fate.{Fate}
use Rattle.kasa_rules.specs.declared.rule.Fate.TheVariants.{Deleted, Kept}
use Rattle.kasa_rules.specs.declared.rule.End.{End}
use Rattle.kasa_rules.specs.declared.rule.End.TheVariants.{Left, Made}
use Rattle.kasa_rules.specs.declared.rule.Written.{Written}
use Rattle.kasa_rules.specs.declared.rule.Written.TheVariants.{Free, To}
use Rattle.kasa_rules.specs.declared.rule.MadeSite.{MadeSite}
use Rattle.kasa_rules.specs.declared.rule.MadeAgent.{MadeAgent}
use Rattle.kasa_rules.specs.Rule.{RuleParts, fate_at, written_state, written_link, touched}

-- the left node that lies on a cell
abbrev pub found_or : Bool → Option ℕ → Option ℕ
found_or true later = Some zero
found_or false later = option_map suc later

unfoldable pub node_on : List ℕ → ℕ → Option ℕ
node_on [] c = None
node_on (d ∷ cells) c = found_or (nat_eq c d) (node_on cells c)

-- what becomes of the agent in a cell, where a left node lies on it
abbrev pub fate_on : RuleParts → List ℕ → ℕ → Option Fate
fate_on r cells c = option_and_then (fate_at r) (node_on cells c)

-- what the rule does at a site of a cell: its new state, its new link, and whether the site is touched
abbrev pub state_on : RuleParts → List ℕ → ℕ → ℕ → Option ℕ
state_on r cells c s = option_and_then (λ n. written_state r n s) (node_on cells c)

abbrev pub link_on : RuleParts → List ℕ → ℕ → ℕ → Option Written
link_on r cells c s = option_and_then (λ n. written_link r n s) (node_on cells c)

abbrev pub touched_on : RuleParts → List ℕ → ℕ → ℕ → Bool
touched_on r cells c s = option_map_or (λ n. touched r n s) (node_on cells c) false

-- the cell of an end, where the created agents count from `first` on
abbrev pub end_cell : List ℕ → ℕ → End → Option ℕ
end_cell cells first (Left n) = slice_get cells n
end_cell cells first (Made k) = Some (first + k)

-- the partner that a written link gives
abbrev pub partner_at : ℕ → ℕ → ℕ × ℕ
partner_at t d = (d, t)

abbrev pub target : List ℕ → ℕ → Written → Option (ℕ × ℕ)
target cells first Free = None
target cells first (To e t) = option_map (partner_at t) (end_cell cells first e)

abbrev pub unless : Bool → ℕ × ℕ → Option (ℕ × ℕ)
unless true p = None
unless false p = Some p

-- a partner stays, unless its site is touched
abbrev pub kept_partner : RuleParts → List ℕ → Option (ℕ × ℕ) → Option (ℕ × ℕ)
kept_partner r cells None = None
kept_partner r cells (Some p) = unless (touched_on r cells p.0 p.1) p

abbrev pub partner_after : RuleParts → List ℕ → ℕ → Option Written → Option (ℕ × ℕ) → Option (ℕ × ℕ)
partner_after r cells first (Some w) old = target cells first w
partner_after r cells first None old = kept_partner r cells old

abbrev pub state_after : Option ℕ → Option ℕ → Option ℕ
state_after (Some u) old = Some u
state_after None old = old

abbrev pub site_after : RuleParts → List ℕ → ℕ → ℕ → ℕ → AgentSite → AgentSite
site_after r cells first c s x = record x {
  state = state_after (state_on r cells c s) x.state;
  partner = partner_after r cells first (link_on r cells c s) x.partner;
}

abbrev pub agent_after : RuleParts → List ℕ → ℕ → ℕ → Agent → Agent
agent_after r cells first c a = record a { sites = map_from zero (site_after r cells first c) a.sites }

-- the cell of a deleted node becomes empty
abbrev pub unless_deleted : Option Fate → Agent → Option Agent
unless_deleted (Some Deleted) a = None
unless_deleted (Some Kept) a = Some a
unless_deleted None a = Some a

abbrev pub cell_after : RuleParts → List ℕ → ℕ → ℕ → Option Agent → Option Agent
cell_after r cells first c None = None
cell_after r cells first c (Some a) = unless_deleted (fate_on r cells c) (agent_after r cells first c a)

abbrev pub made_site_after : List ℕ → ℕ → MadeSite → AgentSite
made_site_after cells first x = record { states = x.states; state = x.state; partner = target cells first x.link }

abbrev pub made_after : List ℕ → ℕ → MadeAgent → Option Agent
made_after cells first a = Some (record { agent = a.agent; sites = map (made_site_after cells first) a.sites })

-- the mixture after the firing
unfoldable pub fire : RuleParts → List ℕ → List (Option Agent) → List (Option Agent)
fire r cells m = map_from zero (cell_after r cells (length m)) m ++ map (made_after cells (length m)) r.made

-- no left node lies on the cell
abbrev pub IsElsewhere : List ℕ → ℕ → Type 0
IsElsewhere cells c = (n : ℕ) → slice_get cells n ≢ Some c

-- a partner stays, or is lost since its site is touched
abbrev pub KeepsPartner : RuleParts → List ℕ → Option (ℕ × ℕ) → Option (ℕ × ℕ) → Type 0
KeepsPartner r cells None after = after ≡ None
KeepsPartner r cells (Some p) after = (after ≡ Some p) ⊎ ((touched_on r cells p.0 p.1 ≡ true) × (after ≡ None))
