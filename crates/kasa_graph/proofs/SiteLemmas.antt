-- Which sites the nodes of a pattern over a signature have.
use Rattle.std.proofs.Common.{◌≡◌, ℕ, ◌<◌, List, refl, sym, ap, ◌∙◌, length}
use Rattle.std.specs.Prelude.{Some, slice_get}
use Rattle.std.proofs.lemmas.List.{length-map}
use Rattle.std.proofs.lemmas.Option.{slice_get_within}
use Rattle.kasa_graph.specs.declared.pattern.SiteTests.{SiteTests}
use Rattle.kasa_graph.specs.declared.pattern.Node.{Node}
use Rattle.kasa_graph.specs.Signature.{TypeEntry, state_counts, HasSite}
use Rattle.kasa_graph.specs.Pattern.{agent_at, site_at, HasNodeSite, IsPatternOver}
use Rattle.kasa_lists.proofs.Elements.{some_at}
use Rattle.kasa_graph.proofs.ShapeLemmas.{agent_at-node, node_of_agent}
use Rattle.kasa_graph.proofs.PatternLemmas.{has_node}

module _ (sig : List TypeEntry) (g : List Node) (over : IsPatternOver sig g) where
  count_of : (n : ℕ) (node : Node) → slice_get g n ≡ Some node → length node.sites ≡ length (state_counts sig node.agent)
  count_of n node at = sym (length-map node.sites (λ (x : SiteTests). x.states)) ∙ ap length (over.sites n node at)

  -- a node has the sites of its type
  pub HasNodeSite-over : (n a s : ℕ) → agent_at g n ≡ Some a → HasSite sig a s → HasNodeSite g n s
  unfolding site_at
  HasNodeSite-over n a s typed has =
      let node = node_of_agent g n a typed in
      let within : s < length node.0.sites = rw (count_of n node.0 node.1, node.2) has in
      let site = some_at node.0.sites s within in
      rw (node.1, site.1) refl

  -- and no others
  pub HasSite-over : (n a s : ℕ) → agent_at g n ≡ Some a → HasNodeSite g n s → HasSite sig a s
  HasSite-over n a s typed has =
      let node = has_node g n s has in
      let same : Some node.0.agent ≡ Some a = sym (agent_at-node g n node.0 node.2) ∙ typed in
      let agent : node.0.agent ≡ a = cc in
      rw (← agent, ← count_of n node.0 node.2) (slice_get_within node.0.sites s node.1 node.3)

-- a node that has a site has a type
pub type_of_node_site : (g : List Node) (n s : ℕ) → HasNodeSite g n s → (a : ℕ) × (agent_at g n ≡ Some a)
type_of_node_site g n s has = let node = has_node g n s has in (node.0.agent, agent_at-node g n node.0 node.2)
