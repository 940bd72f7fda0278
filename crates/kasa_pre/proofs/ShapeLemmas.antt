-- Sites of patterns and of mixtures over one signature.
use Rattle.std.proofs.Common.{◌≡◌, ℕ, ◌<◌, List, sym, ap, ◌∙◌, length}
use Rattle.std.specs.Prelude.{Option, Some, slice_get, option_map}
use Rattle.std.proofs.lemmas.List.{length-map}
use Rattle.std.proofs.lemmas.Option.{slice_get-map, slice_get_within}
use Rattle.kasa_graph.specs.declared.pattern.Node.{Node}
use Rattle.kasa_graph.specs.declared.pattern.SiteTests.{SiteTests}
use Rattle.kasa_graph.specs.declared.mixture.Agent.{Agent}
use Rattle.kasa_graph.specs.declared.mixture.AgentSite.{AgentSite}
use Rattle.kasa_graph.specs.Signature.{TypeEntry}
use Rattle.kasa_graph.specs.Signature.{state_counts}
use Rattle.kasa_graph.specs.Pattern.{agent_at, site_at}
use Rattle.kasa_graph.specs.Mixture.{type_in, site_in, IsMixtureOver}
use Rattle.kasa_graph.proofs.ShapeLemmas.{IsShaped, agent_at-node, node_of_site}
use Rattle.kasa_graph.proofs.MixtureLemmas.{site_of_type}
use Rattle.kasa_rules.proofs.FiredLemmas.{agent_of_site, type_of_agent}

module _ (sig : List TypeEntry) (m : List (Option Agent)) (over : IsMixtureOver sig m) where
  -- a site of a cell is one of the cell's type
  pub count_of_site : (c s b : ℕ) (x : AgentSite) → site_in m c s ≡ Some x → type_in m c ≡ Some b → slice_get (state_counts sig b) s ≡ Some x.states
  count_of_site c s b x is typed =
      let a = agent_of_site m c s x is in
      let same : Some a.0.agent ≡ Some b = sym (type_of_agent m c a.0 a.1) ∙ typed in
      let agent : a.0.agent ≡ b = cc in
      ap (λ (t : ℕ). slice_get (state_counts sig t) s) (sym agent)
      ∙ ap (λ (ks : List ℕ). slice_get ks s) (sym (over.sites c a.0 a.1))
      ∙ slice_get-map (λ (y : AgentSite). y.states) a.0.sites s
      ∙ ap (option_map (λ (y : AgentSite). y.states)) a.2

  -- a cell has the sites of a node of its type
  pub site_of_node : (v : List Node) → IsShaped sig v → (i c s : ℕ) (x : SiteTests) → site_at v i s ≡ Some x → ((a : ℕ) → agent_at v i ≡ Some a → type_in m c ≡ Some a) → (y : AgentSite) × (site_in m c s ≡ Some y)
  site_of_node v shaped i c s x is typed =
      let node = node_of_site v i s x is in
      let long : length node.0.sites ≡ length (state_counts sig node.0.agent) = sym (length-map node.0.sites (λ (y : SiteTests). y.states)) ∙ ap length (shaped i node.0 node.1) in
      let within : s < length (state_counts sig node.0.agent) = rw (← long) (slice_get_within node.0.sites s x node.2) in
      let y = site_of_type sig m over c node.0.agent s (typed node.0.agent (agent_at-node v i node.0 node.1)) within in
      (y.0, y.1)
