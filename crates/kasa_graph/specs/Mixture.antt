-- Mixtures: lists of cells, each empty or with an agent whose sites have states and partners.
use Rattle.std.specs.Prelude.{◌≡◌, ◌≢◌, ℕ, zero, suc, ◌+◌, ◌^◌, ◌<◌, ◌≤◌, ◌==◌, if◌then◌else◌, List, ◌++◌, length, map, Option, Some, None, IsSome, slice_get, option_map, option_and_then}
use Rattle.kasa_graph.specs.declared.mixture.Agent.{Agent}
use Rattle.kasa_graph.specs.declared.mixture.AgentSite.{AgentSite}
use Rattle.kasa_graph.specs.Signature.{TypeEntry}
use Rattle.kasa_lists.specs.Lists.{update}
use Rattle.kasa_graph.specs.Signature.{state_counts}

-- the agent of a living cell
unfoldable pub agent_in : List (Option Agent) → ℕ → Option Agent
agent_in m c = option_and_then (λ cell. cell) (slice_get m c)

-- the type of a living cell
unfoldable pub type_in : List (Option Agent) → ℕ → Option ℕ
type_in m c = option_map (λ a. a.agent) (agent_in m c)

-- a site of a living cell
unfoldable pub site_in : List (Option Agent) → ℕ → ℕ → Option AgentSite
site_in m c s = option_and_then (λ a. slice_get a.sites s) (agent_in m c)

-- the state of a site, none where the site has no states
unfoldable pub state_in : List (Option Agent) → ℕ → ℕ → Option ℕ
state_in m c s = option_and_then (λ x. x.state) (site_in m c s)

-- the cell and the site that a site is bound to
unfoldable pub partner_in : List (Option Agent) → ℕ → ℕ → Option (ℕ × ℕ)
partner_in m c s = option_and_then (λ x. x.partner) (site_in m c s)

-- a living cell has such a site
abbrev pub HasAgentSite : List (Option Agent) → ℕ → ℕ → Type 0
HasAgentSite m c s = IsSome (site_in m c s)

-- partners are mutual, so they stand in living cells, and no site is its own partner
pub record IsMixture (m : List (Option Agent)) : Type 0 where
  pub both_ways : (c s d t : ℕ) → partner_in m c s ≡ Some (d, t) → partner_in m d t ≡ Some (c, s)
  pub apart : (c s : ℕ) → partner_in m c s ≢ Some (c, s)

-- a mixture of at most 2^31 cells, whose numbers fit the partners' type
pub record IsSmallMixture (m : List (Option Agent)) : Type 0 where
  pub linked : IsMixture m
  pub few : length m ≤ 2 ^ 31

-- a site has a state where it has states, which is one of them
pub record IsAgentSite (x : AgentSite) : Type 0 where
  pub within : (u : ℕ) → x.state ≡ Some u → u < x.states
  pub given : 0 < x.states → IsSome x.state

-- the agents of a mixture have just the sites and states of their types
pub record IsMixtureOver (sig : List TypeEntry) (m : List (Option Agent)) : Type 0 where
  pub linked : IsMixture m
  pub types : (c : ℕ) (a : Agent) → agent_in m c ≡ Some a → a.agent < length sig
  pub sites : (c : ℕ) (a : Agent) → agent_in m c ≡ Some a → map (λ x. x.states) a.sites ≡ state_counts sig a.agent
  pub states : (c s : ℕ) (x : AgentSite) → site_in m c s ≡ Some x → IsAgentSite x

-- a site, a partner, an agent, a cell whose partners' cells count on from n
abbrev pub shift_partner : ℕ → ℕ × ℕ → ℕ × ℕ
shift_partner n p = (n + p.0, p.1)

abbrev pub shift_site : ℕ → AgentSite → AgentSite
shift_site n x = record x { partner = option_map (shift_partner n) x.partner }

abbrev pub shift_agent : ℕ → Agent → Agent
shift_agent n a = record a { sites = map (shift_site n) a.sites }

-- two mixtures side by side: the cells of the second one count on
unfoldable pub beside : List (Option Agent) → List (Option Agent) → List (Option Agent)
beside m k = m ++ map (option_map (shift_agent (length m))) k

-- ---- mixtures made of others

-- the first of so many states
abbrev pub first_state : ℕ → Option ℕ
first_state zero = None
first_state (suc k) = Some 0

-- a free site in its first state, of so many states
abbrev pub first_site : ℕ → AgentSite
first_site k = record { states = k; state = first_state k; partner = None }

-- an agent of a type, in first states and free
unfoldable pub first_agent : List TypeEntry → ℕ → Agent
first_agent sig a = record { agent = a; sites = map first_site (state_counts sig a) }

-- an agent, a mixture with a change at one site
abbrev pub change_site : ℕ → (AgentSite → AgentSite) → Agent → Agent
change_site s f a = record a { sites = update a.sites s f }

abbrev pub with_agent_site : List (Option Agent) → ℕ → ℕ → (AgentSite → AgentSite) → List (Option Agent)
with_agent_site m c s f = update m c (option_map (change_site s f))

unfoldable pub with_agent_state : List (Option Agent) → ℕ → ℕ → ℕ → List (Option Agent)
with_agent_state m c s u = with_agent_site m c s (λ x. record x { state = Some u })

unfoldable pub with_partner : List (Option Agent) → ℕ → ℕ → Option (ℕ × ℕ) → List (Option Agent)
with_partner m c s p = with_agent_site m c s (λ x. record x { partner = p })

-- m with a bond between two sites
abbrev pub with_joined : List (Option Agent) → ℕ → ℕ → ℕ → ℕ → List (Option Agent)
with_joined m c s d t = with_partner (with_partner m c s (Some (d, t))) d t (Some (c, s))

-- a partner, a site, an agent without partners in one cell
abbrev pub partner_without : ℕ → ℕ × ℕ → Option (ℕ × ℕ)
partner_without c p = if p.0 == c then None else Some p

abbrev pub site_without : ℕ → AgentSite → AgentSite
site_without c x = record x { partner = option_and_then (partner_without c) x.partner }

abbrev pub agent_without : ℕ → Agent → Agent
agent_without c a = record a { sites = map (site_without c) a.sites }

-- m with one cell emptied, whose partners are free
unfoldable pub removed : List (Option Agent) → ℕ → List (Option Agent)
removed m c = map (option_map (agent_without c)) (update m c (λ _. None))
