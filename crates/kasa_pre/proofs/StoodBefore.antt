-- What stands after a firing had a pattern before it.
use Rattle.std.proofs.Common.{◌≡◌, refl, sym, ap, ◌∙◌, ℕ, List, length}
use Rattle.std.specs.Prelude.{Option}
use Rattle.std.proofs.lemmas.List.{length-map}
use Rattle.std.proofs.lemmas.Option.{slice_get_within}
use Rattle.kasa_graph.specs.declared.pattern.Node.{Node}
use Rattle.kasa_graph.specs.declared.pattern.SiteTests.{SiteTests}
use Rattle.kasa_graph.specs.Signature.{state_counts}
use Rattle.kasa_graph.specs.Pattern.{site_at, HasNodeSite}
use Rattle.kasa_graph.proofs.ListLemmas.{some_at}
use Rattle.kasa_rules.proofs.FiredLemmas.{site_of_partner}
use Rattle.kasa_pre.proofs.LeftLemmas.{typed_node}
use Rattle.kasa_graph.proofs.ShapeLemmas.{node_of_agent}
use Rattle.kasa_pre.proofs.ShapeLemmas.{count_of_site}
use Rattle.kasa_pre.specs.LiesOn.{WasFreed}
use Rattle.kasa_graph.specs.declared.mixture.Agent.{Agent}
use Rattle.kasa_graph.specs.Signature.{TypeEntry}
use Rattle.kasa_graph.specs.Mixture.{IsMixtureOver}
use Rattle.kasa_graph.specs.Embedding.{IsEmbedding}
use Rattle.kasa_rules.specs.Rule.{RuleParts, IsRuleOver}
use Rattle.kasa_rules.specs.Firing.{fire}
use Rattle.kasa_pre.specs.declared.Stand.{Stand}
use Rattle.kasa_pre.specs.declared.FreedBy.{FreedBy}
use Rattle.kasa_pre.specs.LiesOn.{AllLieOn, cells_before, AreJustFreed, StoodBefore}
use Rattle.kasa_pre.proofs.Cut.{cut}
use Rattle.kasa_graph.proofs.ShapeLemmas.{IsShaped}
use Rattle.kasa_pre.proofs.BeforeLemmas.{AreFreed-just, IsBefore-cut, IsEmbedding-before}
use Rattle.kasa_pre.proofs.StandLemmas.{stands_exist, freed_exist}

module _ (sig : List TypeEntry) (r : RuleParts) (cells : List ℕ) (m : List (Option Agent)) (over : IsMixtureOver sig m) (rule : IsRuleOver sig r) (at : IsEmbedding r.left m cells) (v : List Node) (shaped : IsShaped sig v) (after : List ℕ) (later : IsEmbedding v (fire r cells m) after) where
  -- for the given stands and freed tests
  pub StoodBefore-given : (stands : List Stand) (freed : List FreedBy) → AllLieOn cells (length m) stands after → AreJustFreed r cells m v after freed → StoodBefore sig r cells m v after stands freed
  StoodBefore-given stands freed lie just = record {
    pattern = cut m (cells_before cells stands after);
    free = AreFreed-just sig r cells m over rule at v shaped after later stands lie freed just;
    before = IsBefore-cut sig r cells m over rule at v shaped after later stands lie freed just;
    stood = IsEmbedding-before sig r cells m over rule at v shaped after later stands lie;
  }

  -- for some stands and freed tests
  pub StoodBefore-some : (stands : List Stand) × (freed : List FreedBy) × StoodBefore sig r cells m v after stands freed
  StoodBefore-some =
      let stands = stands_exist cells (length m) after at.different in
      let freed = freed_exist r cells at.different m v after later.count in
      (stands.0, freed.0, StoodBefore-given stands.0 freed.0 stands.1 freed.1)

-- the source of a freed test is a site of its left node
pub HasNodeSite-source : (sig : List TypeEntry) (r : RuleParts) (cells : List ℕ) (m : List (Option Agent)) → IsMixtureOver sig m → IsRuleOver sig r → IsEmbedding r.left m cells → (v : List Node) (after : List ℕ) (f : FreedBy) → WasFreed r cells m v after f → HasNodeSite r.left f.from f.«at»
unfolding site_at
HasNodeSite-source sig r cells m over rule at v after f was =
    let back = over.linked.both_ways was.cell f.site was.source f.«at» was.was in
    let x = site_of_partner m was.source f.«at» was.cell f.site back in
    let left = typed_node r.left m cells at f.from was.source was.source_lies in
    let node = node_of_agent r.left f.from left.0 left.1 in
    let count = count_of_site sig m over was.source f.«at» left.0 x.0 x.1 left.2 in
    let long : length node.0.sites ≡ length (state_counts sig left.0) = sym (length-map node.0.sites (λ (y : SiteTests). y.states)) ∙ ap length (rule.left.sites f.from node.0 node.1) ∙ ap (λ (a : ℕ). length (state_counts sig a)) node.2 in
    let site = some_at node.0.sites f.«at» (rw long (slice_get_within (state_counts sig left.0) f.«at» x.0.states count)) in
    rw (node.1, site.1) refl
