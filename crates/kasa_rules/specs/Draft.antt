-- Drafts of rules: what each change makes of a draft, and where it may be made.
use Rattle.std.specs.Prelude.{◌≡◌, ℕ, ◌<◌, ◌≤◌, ◌⊎◌, true, false, List, [], ◌∷◌, ◌++◌, length, map, replicate, Option, Some, None, IsSome, slice_get, option_map, option_and_then}
use Rattle.kasa_num.specs.declared.limits.TheConstants.{MAX_SITES}
use Rattle.kasa_graph.specs.declared.pattern.Node.{Node}
use Rattle.kasa_graph.specs.declared.pattern.LinkTest.TheVariants.{To}
use Rattle.kasa_lists.specs.Lists.{update}
use Rattle.kasa_graph.specs.Signature.{TypeEntry}
use Rattle.kasa_graph.specs.Signature.{state_counts}
use Rattle.kasa_graph.specs.Mixture.{first_state}
use Rattle.kasa_graph.specs.Pattern.{site_at, link_test, HasNodeSite}
use Rattle.kasa_rules.specs.declared.rule.Fate.TheVariants.{Deleted, Kept}
use Rattle.kasa_rules.specs.declared.rule.End.{End}
use Rattle.kasa_rules.specs.declared.rule.End.TheVariants.{Left, Made}
use Rattle.kasa_rules.specs.declared.rule.Written.{Written}
use Rattle.kasa_rules.specs.declared.rule.Written.TheVariants.{Free, To}
use Rattle.kasa_rules.specs.declared.rule.SiteAction.{SiteAction}
use Rattle.kasa_rules.specs.declared.rule.NodeAction.{NodeAction}
use Rattle.kasa_rules.specs.declared.rule.MadeSite.{MadeSite}
use Rattle.kasa_rules.specs.declared.rule.MadeAgent.{MadeAgent}
use Rattle.kasa_rules.specs.Rule.{RuleParts, fate_at, written_state, written_link, made_site, made_link, touched}

-- ---- the drafts that a draft becomes

-- nothing is written
abbrev pub no_action : SiteAction
no_action = record { state = None; link = None }

abbrev pub keep_node : Node → NodeAction
keep_node node = record { fate = Kept; sites = replicate (length node.sites) no_action }

-- all left nodes are kept, and nothing is written or created
unfoldable pub new_draft : List ℕ → List Node → RuleParts
new_draft name left = record { name = name; left = left; actions = map keep_node left; made = [] }

-- a free site in its first state
abbrev pub new_site : ℕ → MadeSite
new_site k = record { states = k; state = first_state k; link = Free }

abbrev pub new_agent : List TypeEntry → ℕ → MadeAgent
new_agent sig a = record { agent = a; sites = map new_site (state_counts sig a) }

-- one more created agent
unfoldable pub with_made : RuleParts → MadeAgent → RuleParts
with_made r x = record r { made = r.made ++ x ∷ [] }

abbrev pub delete_node : NodeAction → NodeAction
delete_node x = record x { fate = Deleted }

-- a left node is deleted
unfoldable pub with_deleted : RuleParts → ℕ → RuleParts
with_deleted r n = record r { actions = update r.actions n delete_node }

-- another action at a site of a left node, and another site of a created agent
abbrev pub change_action : List NodeAction → ℕ → ℕ → (SiteAction → SiteAction) → List NodeAction
change_action actions n s f = update actions n (λ x. record x { sites = update x.sites s f })

abbrev pub change_made : List MadeAgent → ℕ → ℕ → (MadeSite → MadeSite) → List MadeAgent
change_made made k s f = update made k (λ x. record x { sites = update x.sites s f })

-- a state is written at an end
abbrev pub actions_with_state : List NodeAction → End → ℕ → ℕ → List NodeAction
actions_with_state actions (Left n) s u = change_action actions n s (λ x. record x { state = Some u })
actions_with_state actions (Made k) s u = actions

abbrev pub made_with_state : List MadeAgent → End → ℕ → ℕ → List MadeAgent
made_with_state made (Left n) s u = made
made_with_state made (Made k) s u = change_made made k s (λ x. record x { state = Some u })

unfoldable pub with_written_state : RuleParts → End → ℕ → ℕ → RuleParts
with_written_state r e s u = record r { actions = actions_with_state r.actions e s u; made = made_with_state r.made e s u }

-- a link is written at an end
abbrev pub actions_with_link : List NodeAction → End → ℕ → Written → List NodeAction
actions_with_link actions (Left n) s w = change_action actions n s (λ x. record x { link = Some w })
actions_with_link actions (Made k) s w = actions

abbrev pub made_with_link : List MadeAgent → End → ℕ → Written → List MadeAgent
made_with_link made (Left n) s w = made
made_with_link made (Made k) s w = change_made made k s (λ x. record x { link = w })

unfoldable pub with_written_link : RuleParts → End → ℕ → Written → RuleParts
with_written_link r e s w = record r { actions = actions_with_link r.actions e s w; made = made_with_link r.made e s w }

-- a bond is written at both of its ends
abbrev pub with_written_bond : RuleParts → End → ℕ → End → ℕ → RuleParts
with_written_bond r e s f t = with_written_link (with_written_link r e s (To f t)) f t (To e s)

-- ---- where they may be made

-- there is such a site, of a kept node or of a created agent
abbrev pub HasEndSite : RuleParts → End → ℕ → Type 0
HasEndSite r (Left n) s = (fate_at r n ≡ Some Kept) × HasNodeSite r.left n s
HasEndSite r (Made k) s = IsSome (made_site r k s)

-- how many states the site of an end has
abbrev pub end_states : RuleParts → End → ℕ → Option ℕ
end_states r (Left n) s = option_map (λ x. x.states) (site_at r.left n s)
end_states r (Made k) s = option_map (λ x. x.states) (made_site r k s)

-- the site of an end has a state of this number
abbrev pub HasEndState : RuleParts → End → ℕ → ℕ → Type 0
HasEndState r e s u = (k : ℕ) × (end_states r e s ≡ Some k) × (u < k)

-- no link is written there yet, or the created site is free
abbrev pub IsOpen : RuleParts → End → ℕ → Type 0
IsOpen r (Left n) s = written_link r n s ≡ None
IsOpen r (Made k) s = made_link r k s ≡ Free

-- nothing is written on a left node
abbrev pub IsUnwritten : RuleParts → ℕ → Type 0
IsUnwritten r n = (s : ℕ) → (written_state r n s ≡ None) × (written_link r n s ≡ None)

-- a site of the left pattern that isn't touched, although it has a bond whose other end is
abbrev pub IsHalfBond : RuleParts → ℕ → ℕ → Type 0
IsHalfBond r n s = (m t : ℕ) × (link_test r.left n s ≡ To m t) × (touched r n s ≡ false) × (touched r m t ≡ true)

-- a node and a site come before others
abbrev pub ComesBefore : ℕ → ℕ → ℕ → ℕ → Type 0
ComesBefore n s k u = (n < k) ⊎ ((n ≡ k) × (s < u))

-- ---- what the lists of every draft keep

-- an action at just the sites of the left nodes, within their limit
pub record HasActions (r : RuleParts) : Type 0 where
  pub sites : map (λ x. length x.sites) r.actions ≡ map (λ x. length x.sites) r.left
  pub few_sites : (n : ℕ) (x : Node) → slice_get r.left n ≡ Some x → length x.sites ≤ MAX_SITES

-- the action, or the created site, of an end is there
abbrev pub HasListed : List NodeAction → List MadeAgent → End → ℕ → Type 0
HasListed actions made (Left n) s = IsSome (option_and_then (λ x. slice_get x.sites s) (slice_get actions n))
HasListed actions made (Made k) s = IsSome (option_and_then (λ x. slice_get x.sites s) (slice_get made k))
