-- A complex as it is built: agents with their states come first, and bonds later.
use Rattle.std.specs.Prelude.{◌≡◌, ◌<◌, ℕ, List, length, map, Option, Some, None, slice_get, option_and_then}
use Rattle.kasa_graph.specs.Lists.{AllDifferent}
use Rattle.kasa_graph.specs.declared.mixture.Agent.{Agent}
use Rattle.kasa_graph.specs.declared.pattern.StateTest.{StateTest}
use Rattle.kasa_graph.specs.declared.pattern.StateTest.TheVariants.{Any, Is}
use Rattle.kasa_graph.specs.Signature.{TypeEntry, state_counts}
use Rattle.kasa_graph.specs.Mixture.{type_in, state_in, partner_in, HasAgentSite, with_agent_state, with_joined, IsMixture, IsMixtureOver}
use Rattle.kasa_compile.specs.declared.said.LinkSaid.TheVariants.{Label}
use Rattle.kasa_compile.specs.declared.said.SiteSaid.{SiteSaid}
use Rattle.kasa_compile.specs.declared.said.AgentSaid.{AgentSaid}
use Rattle.kasa_compile.specs.Bonds.{said_at, joined_to}
use Rattle.kasa_compile.specs.Complex.{state_given, partner_given}

-- the number of a state that is given, none for `#`
abbrev pub number_of : Option StateTest → Option ℕ
number_of (Some (Is u)) = Some u
number_of (Some Any) = None
number_of None = None

-- a state that is given is set
abbrev pub with_state_or_not : List (Option Agent) → ℕ → ℕ → Option ℕ → List (Option Agent)
with_state_or_not m c s None = m
with_state_or_not m c s (Some u) = with_agent_state m c s u

abbrev pub with_given : List (Option Agent) → ℕ → ℕ → Option StateTest → List (Option Agent)
with_given m c s test = with_state_or_not m c s (number_of test)

-- the agents are the cells in text order, with their states, and free
pub record AreUnjoined (sig : List TypeEntry) (agents : List AgentSaid) (m : List (Option Agent)) : Type 0 where
  pub over : IsMixtureOver sig m
  pub cells : length m ≡ length agents
  pub types : (c : ℕ) (a : AgentSaid) → slice_get agents c ≡ Some a → type_in m c ≡ Some a.agent
  pub states : (c s : ℕ) (a : AgentSaid) → slice_get agents c ≡ Some a → state_in m c s ≡ option_and_then (state_given (said_at a.sites s)) (slice_get (state_counts sig a.agent) s)
  pub free : (c s : ℕ) → partner_in m c s ≡ None

-- ---- bonds

-- a bond between two sites, unless the first one has one
abbrev pub bonded_if_free : List (Option Agent) → ℕ × ℕ → ℕ × ℕ → Option (ℕ × ℕ) → List (Option Agent)
bonded_if_free m p q None = with_joined m p.0 p.1 q.0 q.1
bonded_if_free m p q (Some other) = m

unfoldable pub bonded : List (Option Agent) → ℕ × ℕ → ℕ × ℕ → List (Option Agent)
bonded m p q = bonded_if_free m p q (partner_in m p.0 p.1)

-- the mixture new is old with some bonds more
pub record HasMoreBonds (old new : List (Option Agent)) : Type 0 where
  pub over : (sig : List TypeEntry) → IsMixtureOver sig old → IsMixtureOver sig new
  pub cells : length new ≡ length old
  pub types : (c : ℕ) → type_in new c ≡ type_in old c
  pub states : (c s : ℕ) → state_in new c s ≡ state_in old c s
  pub sites : (c s : ℕ) → HasAgentSite old c s → HasAgentSite new c s
  pub kept : (c s : ℕ) (q : ℕ × ℕ) → partner_in old c s ≡ Some q → partner_in new c s ≡ Some q

-- each site of the agents exists, and each bond is one of their labels
pub record IsJoining (agents : List AgentSaid) (m : List (Option Agent)) : Type 0 where
  pub linked : IsMixture m
  pub sites : (c i : ℕ) (a : AgentSaid) (x : SiteSaid) → slice_get agents c ≡ Some a → slice_get a.sites i ≡ Some x → HasAgentSite m c x.site
  pub given : (c s : ℕ) (a : AgentSaid) (q : ℕ × ℕ) → slice_get agents c ≡ Some a → partner_in m c s ≡ Some q → partner_given agents c (said_at a.sites s) ≡ Some q

-- each agent names a site once
abbrev pub AreNamedOnce : List AgentSaid → Type 0
AreNamedOnce agents = (k : ℕ) (a : AgentSaid) → slice_get agents k ≡ Some a → AllDifferent (map (λ (s : SiteSaid). s.site) a.sites)

-- a site of an agent, whose label is joined
abbrev pub IsJoinedAt : List AgentSaid → List (Option Agent) → ℕ → SiteSaid → Type 0
IsJoinedAt agents m c x = (number : ℕ) → x.link ≡ Some (Label number) → partner_in m c x.site ≡ Some (joined_to agents number (c, x.site))

-- the labels of the first so many sites of an agent are joined
abbrev pub AreSitesJoined : List AgentSaid → List (Option Agent) → ℕ → List SiteSaid → ℕ → Type 0
AreSitesJoined agents m c sites n = (i : ℕ) (x : SiteSaid) → i < n → slice_get sites i ≡ Some x → IsJoinedAt agents m c x

-- those of the first so many agents are joined
abbrev pub AreAgentsJoined : List AgentSaid → List (Option Agent) → ℕ → Type 0
AreAgentsJoined agents m n = (c : ℕ) (a : AgentSaid) → c < n → slice_get agents c ≡ Some a → AreSitesJoined agents m c a.sites (length a.sites)
