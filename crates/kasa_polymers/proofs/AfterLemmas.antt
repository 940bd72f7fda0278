-- What a firing leaves of states and partners, and what it writes.
use Rattle.std.proofs.Common.{◌≡◌, ◌≢◌, ℕ, ◌<◌, List, refl, ◌∙◌, length}
use Rattle.std.specs.Prelude.{Option, Some, None, slice_get, option_map, option_and_then}
use Rattle.std.proofs.lemmas.Option.{slice_get_within}
use Rattle.kasa_graph.specs.declared.mixture.Agent.{Agent}
use Rattle.kasa_graph.specs.declared.mixture.AgentSite.{AgentSite}
use Rattle.kasa_graph.specs.Signature.{TypeEntry}
use Rattle.kasa_graph.specs.Mixture.{site_in, state_in, partner_in, IsMixtureOver}
use Rattle.kasa_graph.specs.Embedding.{IsEmbedding}
use Rattle.kasa_graph.proofs.ListLemmas.{some_then}
use Rattle.kasa_rules.specs.declared.rule.Fate.TheVariants.{Deleted}
use Rattle.kasa_rules.specs.declared.rule.Written.{Written}
use Rattle.kasa_rules.specs.declared.rule.NodeAction.{NodeAction}
use Rattle.kasa_rules.specs.declared.rule.SiteAction.{SiteAction}
use Rattle.kasa_rules.specs.Rule.{RuleParts, action_at, written_link, IsRuleOver}
use Rattle.kasa_rules.specs.Firing.{fire, node_on, fate_on, state_on, link_on, target, kept_partner, site_after}
use Rattle.kasa_rules.proofs.FiringLemmas.{node_on-at}
use Rattle.kasa_rules.proofs.FiredLemmas.{type_within, partner_within, site_in-fire_old, partner_in-fire_kept}
use Rattle.kasa_graph.proofs.MixtureLemmas.{site_of_type}
use Rattle.kasa_pre.proofs.LeftLemmas.{typed_node}

module _ (r : RuleParts) (cells : List ℕ) (m : List (Option Agent)) where
  -- a state that isn't written stays
  pub state_in-stays : (c s : ℕ) → c < length m → fate_on r cells c ≢ Some Deleted → state_on r cells c s ≡ None → state_in (fire r cells m) c s ≡ state_in m c s
  unfolding state_in
  state_in-stays c s within stays none = rw (site_in-fire_old r cells m c s within stays) (by_site (site_in m c s))
    where
      by_site : (o : Option AgentSite) → option_and_then (λ (x : AgentSite). x.state) (option_map (site_after r cells (length m) c s) o) ≡ option_and_then (λ (x : AgentSite). x.state) o
      by_site None = refl
      by_site (Some x) = rw none refl

  -- a written state stands afterwards
  pub state_in-of_written : (c s u w : ℕ) → c < length m → fate_on r cells c ≢ Some Deleted → state_on r cells c s ≡ Some u → state_in (fire r cells m) c s ≡ Some w → u ≡ w
  unfolding state_in
  state_in-of_written c s u w within stays written now = by_site (site_in m c s) (rw (site_in-fire_old r cells m c s within stays) at now)
    where
      by_site : (o : Option AgentSite) → option_and_then (λ (x : AgentSite). x.state) (option_map (site_after r cells (length m) c s) o) ≡ Some w → u ≡ w
      by_site None e = absurd cc
      by_site (Some x) e = let f : Some u ≡ Some w = rw written at e in cc

  -- a link that isn't written stays, unless its partner's site is touched
  pub partner_in-stays : (c s : ℕ) → c < length m → fate_on r cells c ≢ Some Deleted → link_on r cells c s ≡ None → partner_in (fire r cells m) c s ≡ kept_partner r cells (partner_in m c s)
  unfolding partner_in
  partner_in-stays c s within stays none = rw (site_in-fire_old r cells m c s within stays) (by_site (site_in m c s))
    where
      by_site : (o : Option AgentSite) → option_and_then (λ (x : AgentSite). x.partner) (option_map (site_after r cells (length m) c s) o) ≡ kept_partner r cells (option_and_then (λ (x : AgentSite). x.partner) o)
      by_site None = refl
      by_site (Some x) = rw none refl

module _ (sig : List TypeEntry) (r : RuleParts) (cells : List ℕ) (m : List (Option Agent)) (over : IsMixtureOver sig m) (rule : IsRuleOver sig r) (at : IsEmbedding r.left m cells) where
  left_within : (n c : ℕ) → slice_get cells n ≡ Some c → c < length m
  left_within n c e = let a = typed_node r.left m cells at n c e in type_within m c a.0 a.2

  -- a partner is a cell of the mixture
  pub partner_below : (c s d t : ℕ) → partner_in m c s ≡ Some (d, t) → d < length m
  partner_below c s d t e = partner_within m d t c s (over.linked.both_ways c s d t e)

  -- a site whose link is written is there
  written_site : (n c s : ℕ) (w : Written) → slice_get cells n ≡ Some c → written_link r n s ≡ Some w → (y : AgentSite) × (site_in m c s ≡ Some y)
  unfolding written_link action_at
  written_site n c s w here is =
      let action = some_then (λ (a : SiteAction). a.link) (option_and_then (λ (a : NodeAction). slice_get a.sites s) (slice_get r.actions n)) w is in
      let node = some_then (λ (a : NodeAction). slice_get a.sites s) (slice_get r.actions n) action.0 action.1 in
      let left = typed_node r.left m cells at n c here in
      let site = site_of_type sig m over c left.0 s left.2 (rw (← rule.action_sites n left.0 node.0 node.1 left.1) (slice_get_within node.0.sites s action.0 node.2)) in
      (site.0, site.1)

  -- and has the written partner afterwards
  pub partner_in-written : (n c s : ℕ) (w : Written) → slice_get cells n ≡ Some c → fate_on r cells c ≢ Some Deleted → written_link r n s ≡ Some w → partner_in (fire r cells m) c s ≡ target cells (length m) w
  partner_in-written n c s w here stays is =
      let y = written_site n c s w here is in
      let on : node_on cells c ≡ Some n = node_on-at cells c n at.different here in
      partner_in-fire_kept r cells m c s y.0 (left_within n c here) stays y.1 ∙ rw (on, is) refl
