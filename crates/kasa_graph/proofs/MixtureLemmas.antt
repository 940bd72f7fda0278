-- Laws of mixtures that are valid over a signature: which sites there are, and where partners stand.
use Rattle.std.proofs.Common.{◌≡◌, ℕ, List, sym, ap, ◌∙◌, map, length}
use Rattle.std.specs.Prelude.{Option, Some, slice_get, option_map, option_and_then}
use Rattle.std.proofs.lemmas.List.{length-map}
use Rattle.std.proofs.lemmas.Option.{slice_get-map, slice_get_within}
use Rattle.kasa_graph.specs.declared.mixture.Agent.{Agent}
use Rattle.kasa_graph.specs.declared.mixture.AgentSite.{AgentSite}
use Rattle.kasa_graph.specs.Signature.{TypeEntry}
use Rattle.kasa_graph.specs.Signature.{state_counts, HasSite}
use Rattle.kasa_graph.specs.Mixture.{agent_in, type_in, site_in, partner_in, IsMixtureOver}
use Rattle.kasa_lists.proofs.Options.{some_map, some_then}
use Rattle.kasa_lists.proofs.Elements.{some_at}

module _ (sig : List TypeEntry) (m : List (Option Agent)) (over : IsMixtureOver sig m) where
  -- a cell of a type has each site of the type, with its number of states
  pub site_of_type : (c a s : ℕ) → type_in m c ≡ Some a → HasSite sig a s → (x : AgentSite) × (site_in m c s ≡ Some x) × (slice_get (state_counts sig a) s ≡ Some x.states)
  unfolding type_in site_in
  site_of_type c a s typed has =
      let agent = some_map (λ (b : Agent). b.agent) (agent_in m c) a typed in
      let shape : map (λ (x : AgentSite). x.states) agent.0.sites ≡ state_counts sig a = over.sites c agent.0 agent.1 ∙ ap (state_counts sig) agent.2 in
      let long : length agent.0.sites ≡ length (state_counts sig a) = sym (length-map agent.0.sites (λ (x : AgentSite). x.states)) ∙ ap length shape in
      let site = some_at agent.0.sites s (rw long has) in (
        site.0,
        ap (λ (o : Option Agent). option_and_then (λ (b : Agent). slice_get b.sites s) o) agent.1 ∙ site.1,
        ap (λ (ks : List ℕ). slice_get ks s) (sym shape) ∙ slice_get-map (λ (x : AgentSite). x.states) agent.0.sites s ∙ ap (option_map (λ (x : AgentSite). x.states)) site.1,
      )

  -- a partner stands in a living cell, at a site of its type
  pub type_of_partner : (c s d t : ℕ) → partner_in m c s ≡ Some (d, t) → (b : ℕ) × (type_in m d ≡ Some b) × HasSite sig b t
  unfolding type_in site_in partner_in
  type_of_partner c s d t bound =
      let site = some_then (λ (x : AgentSite). x.partner) (option_and_then (λ (b : Agent). slice_get b.sites t) (agent_in m d)) (c, s) (over.linked.both_ways c s d t bound) in
      let agent = some_then (λ (b : Agent). slice_get b.sites t) (agent_in m d) site.0 site.1 in
      let long : length agent.0.sites ≡ length (state_counts sig agent.0.agent) = sym (length-map agent.0.sites (λ (x : AgentSite). x.states)) ∙ ap length (over.sites d agent.0 agent.1) in
      (agent.0.agent, ap (option_map (λ (b : Agent). b.agent)) agent.1, rw (← long) (slice_get_within agent.0.sites t site.0 agent.2))
