-- The pattern that is cut out of a mixture at some cells, and that it is embedded there.
use Rattle.std.proofs.Common.{◌≡◌, ℕ, List, [], refl, sym, ap, ◌∙◌, length, map}
use Rattle.std.specs.Prelude.{Option, Some, None, slice_get, option_map, option_and_then}
use Rattle.std.specs.Option.{option_map_or}
use Rattle.std.proofs.lemmas.List.{length-map}
use Rattle.std.proofs.lemmas.Option.{slice_get-map}
use Rattle.kasa_graph.specs.declared.pattern.Node.{Node}
use Rattle.kasa_graph.specs.declared.pattern.SiteTests.{SiteTests}
use Rattle.kasa_graph.specs.declared.mixture.Agent.{Agent}
use Rattle.kasa_graph.specs.declared.mixture.AgentSite.{AgentSite}
use Rattle.kasa_graph.specs.declared.pattern.StateTest.{StateTest}
use Rattle.kasa_graph.specs.declared.pattern.StateTest.TheVariants as state
use Rattle.kasa_graph.specs.declared.pattern.LinkTest.{LinkTest}
use Rattle.kasa_graph.specs.declared.pattern.LinkTest.TheVariants.{Any, Free, Partner, To}
use Rattle.kasa_graph.specs.Lists.{AllDifferent}
use Rattle.kasa_graph.specs.Pattern.{agent_at, site_at, state_test, link_test}
use Rattle.kasa_graph.specs.Mixture.{agent_in, type_in, site_in, state_in, partner_in}
use Rattle.kasa_graph.specs.Embedding.{IsEmbedding, MeetsState, MeetsLink}
use Rattle.kasa_rules.specs.Firing.{node_on}
use Rattle.kasa_rules.proofs.FiringLemmas.{node_on-found}

abbrev pub cut_state : Option ℕ → StateTest
cut_state None = state.Any
cut_state (Some u) = state.Is u

-- a partner is named where it is among the cells
abbrev pub cut_partner : Option ℕ → Option ℕ → ℕ → LinkTest
cut_partner (Some n) of_type t = To n t
cut_partner None (Some b) t = Partner b t
cut_partner None None t = Any

abbrev pub cut_link : List (Option Agent) → List ℕ → Option (ℕ × ℕ) → LinkTest
cut_link m cells None = Free
cut_link m cells (Some p) = cut_partner (node_on cells p.0) (type_in m p.0) p.1

abbrev pub cut_site : List (Option Agent) → List ℕ → AgentSite → SiteTests
cut_site m cells x = record { states = x.states; state = cut_state x.state; link = cut_link m cells x.partner }

abbrev pub no_node : Node
no_node = record { agent = 0; sites = [] }

abbrev pub cut_agent : List (Option Agent) → List ℕ → Agent → Node
cut_agent m cells a = record { agent = a.agent; sites = map (cut_site m cells) a.sites }

abbrev pub cut_node : List (Option Agent) → List ℕ → ℕ → Node
cut_node m cells c = option_map_or (cut_agent m cells) (agent_in m c) no_node

unfoldable pub cut : List (Option Agent) → List ℕ → List Node
cut m cells = map (cut_node m cells) cells

module _ (m : List (Option Agent)) (cells : List ℕ) where
  pub slice_get-cut : (n c : ℕ) → slice_get cells n ≡ Some c → slice_get (cut m cells) n ≡ Some (cut_node m cells c)
  unfolding cut
  slice_get-cut n c e = slice_get-map (cut_node m cells) cells n ∙ ap (option_map (cut_node m cells)) e

  pub site_at-cut : (n c s : ℕ) → slice_get cells n ≡ Some c → site_at (cut m cells) n s ≡ option_map (cut_site m cells) (site_in m c s)
  unfolding site_at site_in
  site_at-cut n c s e = rw (slice_get-cut n c e) (by_agent (agent_in m c))
    where
      by_agent : (o : Option Agent) → slice_get (option_map_or (cut_agent m cells) o no_node).sites s ≡ option_map (cut_site m cells) (option_and_then (λ (a : Agent). slice_get a.sites s) o)
      by_agent None = refl
      by_agent (Some a) = slice_get-map (cut_site m cells) a.sites s

  met_state : (o : Option AgentSite) → MeetsState (option_and_then (λ (x : AgentSite). x.state) o) (option_map_or (λ (x : SiteTests). x.state) (option_map (cut_site m cells) o) state.Any)
  met_state None = tt
  met_state (Some x) = by_state x.state
    where
      by_state : (u : Option ℕ) → MeetsState u (cut_state u)
      by_state None = tt
      by_state (Some u) = refl

  met_link : (o : Option AgentSite) → MeetsLink m cells (option_and_then (λ (x : AgentSite). x.partner) o) (option_map_or (λ (x : SiteTests). x.link) (option_map (cut_site m cells) o) Any)
  met_link None = tt
  met_link (Some x) = by_partner x.partner
    where
      by_place : (d t : ℕ) (n b : Option ℕ) → node_on cells d ≡ n → type_in m d ≡ b → MeetsLink m cells (Some (d, t)) (cut_partner n b t)
      by_place d t (Some n) b e f = (d, refl, node_on-found cells d n e)
      by_place d t None (Some b) e f = (d, refl, f)
      by_place d t None None e f = tt

      by_partner : (p : Option (ℕ × ℕ)) → MeetsLink m cells p (cut_link m cells p)
      by_partner None = refl
      by_partner (Some p) = by_place p.0 p.1 (node_on cells p.0) (type_in m p.0) refl refl

  pub cut_type : (n c b : ℕ) → slice_get cells n ≡ Some c → type_in m c ≡ Some b → agent_at (cut m cells) n ≡ Some b
  unfolding agent_at type_in
  cut_type n c b e f = rw (slice_get-cut n c e) (by_agent (agent_in m c) f)
    where
      by_agent : (o : Option Agent) → option_map (λ (a : Agent). a.agent) o ≡ Some b → ◌≡◌ {A = Option ℕ} (Some (option_map_or (cut_agent m cells) o no_node).agent) (Some b)
      by_agent None g = absurd cc
      by_agent (Some a) g = g

  pub cut_states : (n c s : ℕ) → slice_get cells n ≡ Some c → MeetsState (state_in m c s) (state_test (cut m cells) n s)
  unfolding state_in state_test
  cut_states n c s e = rw (site_at-cut n c s e) (met_state (site_in m c s))

  pub cut_links : (n c s : ℕ) → slice_get cells n ≡ Some c → MeetsLink m cells (partner_in m c s) (link_test (cut m cells) n s)
  unfolding partner_in link_test
  cut_links n c s e = rw (site_at-cut n c s e) (met_link (site_in m c s))

  pub length-cut : length (cut m cells) ≡ length cells
  unfolding cut
  length-cut = length-map cells (cut_node m cells)

  -- the cut is embedded at its cells, where they are different and alive
  pub IsEmbedding-cut : AllDifferent cells → ((n c : ℕ) → slice_get cells n ≡ Some c → (a : ℕ) × (type_in m c ≡ Some a)) → IsEmbedding (cut m cells) m cells
  IsEmbedding-cut different alive = record {
    count = sym length-cut;
    different = different;
    types = λ n c a e is. let b = alive n c e in b.1 ∙ sym (cut_type n c b.0 e b.1) ∙ is;
    states = cut_states;
    links = cut_links;
  }
