-- A declared complex.
use Rattle.std.specs.Prelude.{ℕ, List, Option, Some, None}
use Rattle.kasa_graph.specs.declared.mixture.Agent.{Agent}
use Rattle.kasa_graph.specs.declared.mixture.AgentSite.{AgentSite}
use Rattle.kasa_graph.specs.declared.pattern.StateTest.{StateTest}
use Rattle.kasa_graph.specs.declared.pattern.StateTest.TheVariants.{Any, Is}
use Rattle.kasa_graph.specs.Signature.{TypeEntry, state_counts}
use Rattle.kasa_graph.specs.Lists.{map_from}
use Rattle.kasa_graph.specs.Mixture.{first_state}
use Rattle.kasa_compile.specs.declared.said.LinkSaid.{LinkSaid}
use Rattle.kasa_compile.specs.declared.said.LinkSaid.TheVariants.{Label}
use Rattle.kasa_compile.specs.declared.said.SiteSaid.{SiteSaid}
use Rattle.kasa_compile.specs.declared.said.AgentSaid.{AgentSaid}
use Rattle.kasa_compile.specs.Bonds.{said_at, joined_to}

-- the state that is given, and else the first of so many
abbrev pub given_or_first : Option StateTest → ℕ → Option ℕ
given_or_first (Some (Is u)) k = Some u
given_or_first (Some Any) k = first_state k
given_or_first None k = first_state k

abbrev pub state_given : Option SiteSaid → ℕ → Option ℕ
state_given None k = first_state k
state_given (Some s) k = given_or_first s.state k

-- the partner by the site's label, none where it has no label
abbrev pub joined_by : List AgentSaid → ℕ × ℕ → Option LinkSaid → Option (ℕ × ℕ)
joined_by agents p (Some (Label number)) = Some (joined_to agents number p)
joined_by agents p _ = None

abbrev pub partner_given : List AgentSaid → ℕ → Option SiteSaid → Option (ℕ × ℕ)
partner_given agents c None = None
partner_given agents c (Some s) = joined_by agents (c, s.site) s.link

-- a site of the c-th agent: a state that isn't given is the first, and a link that isn't given is free
abbrev pub site_given : List AgentSaid → ℕ → AgentSaid → ℕ → ℕ → AgentSite
site_given agents c a s k = record { states = k; state = state_given (said_at a.sites s) k; partner = partner_given agents c (said_at a.sites s) }

-- its cell
abbrev pub cell_of : List TypeEntry → List AgentSaid → ℕ → AgentSaid → Option Agent
cell_of sig agents c a = Some (record { agent = a.agent; sites = map_from 0 (site_given agents c a) (state_counts sig a.agent) })

-- the agents are the cells in text order
unfoldable pub complex_of : List TypeEntry → List AgentSaid → List (Option Agent)
complex_of sig agents = map_from 0 (cell_of sig agents) agents
