-- What a cell of before holds after a firing, and which of its tests the firing leaves as they were.
use Rattle.std.proofs.Common.{◌≡◌, ◌≢◌, ℕ, ◌+◌, ◌<◌, List, refl, sym, ◌∙◌, length}
use Rattle.std.specs.Prelude.{Option, Some, None, slice_get, option_map, option_and_then}
use Rattle.std.proofs.lemmas.Option.{slice_get_within}
use Rattle.kasa_graph.specs.declared.mixture.Agent.{Agent}
use Rattle.kasa_graph.specs.declared.mixture.AgentSite.{AgentSite}
use Rattle.kasa_graph.specs.Signature.{TypeEntry}
use Rattle.kasa_graph.specs.declared.pattern.LinkTest.{LinkTest}
use Rattle.kasa_graph.specs.declared.pattern.LinkTest.TheVariants as test
use Rattle.kasa_graph.specs.Mixture.{agent_in, type_in, site_in, state_in, partner_in, IsMixtureOver}
use Rattle.kasa_graph.specs.Embedding.{IsEmbedding, MeetsLink}
use Rattle.kasa_lists.proofs.Options.{some_then}
use Rattle.kasa_lists.proofs.Elements.{some_at}
use Rattle.kasa_rules.specs.declared.rule.Fate.{Fate}
use Rattle.kasa_rules.specs.declared.rule.Fate.TheVariants.{Deleted, Kept}
use Rattle.kasa_rules.specs.declared.rule.End.{End}
use Rattle.kasa_rules.specs.declared.rule.End.TheVariants as «end»
use Rattle.kasa_rules.specs.declared.rule.Written.{Written}
use Rattle.kasa_rules.specs.declared.rule.NodeAction.{NodeAction}
use Rattle.kasa_rules.specs.declared.rule.SiteAction.{SiteAction}
use Rattle.kasa_rules.specs.Rule.{RuleParts, action_at, written_link, end_type, end_link, IsRuleOver}
use Rattle.kasa_rules.specs.Firing.{fire, node_on, fate_on, state_on, link_on, end_cell, target, kept_partner, site_after, unless_deleted, agent_after, cell_after}
use Rattle.kasa_rules.proofs.FiringLemmas.{slice_get-fire_old, node_on-at}
use Rattle.kasa_rules.proofs.FiredLemmas.{type_within, partner_within, site_in-fire_old, type_in-fire_old, partner_in-fire_kept, type_in-fire_new}
use Rattle.kasa_graph.proofs.MixtureLemmas.{site_of_type}
use Rattle.kasa_pre.proofs.LeftLemmas.{typed_node}

module _ (r : RuleParts) (cells : List ℕ) (m : List (Option Agent)) where
  -- a cell that isn't deleted keeps its type
  pub type_in-stays : (c : ℕ) → c < length m → fate_on r cells c ≢ Some Deleted → type_in (fire r cells m) c ≡ type_in m c
  unfolding type_in agent_in
  type_in-stays c within stays = rw (slice_get-fire_old r cells m c within) (by_cell (slice_get m c))
    where
      by_fate : (fate : Option Fate) (a : Agent) → fate ≢ Some Deleted → option_map (λ (x : Agent). x.agent) (unless_deleted fate (agent_after r cells (length m) c a)) ≡ Some a.agent
      by_fate (Some Deleted) a ne = absurd (ne refl)
      by_fate (Some Kept) a ne = refl
      by_fate None a ne = refl

      by_cell : (o : Option (Option Agent)) → option_map (λ (x : Agent). x.agent) (option_and_then (λ (cell : Option Agent). cell) (option_map (cell_after r cells (length m) c) o)) ≡ option_map (λ (x : Agent). x.agent) (option_and_then (λ (cell : Option Agent). cell) o)
      by_cell None = refl
      by_cell (Some None) = refl
      by_cell (Some (Some a)) = by_fate (fate_on r cells c) a stays

  -- a state that isn't written stays
  pub state_in-stays : (c s : ℕ) → c < length m → fate_on r cells c ≢ Some Deleted → state_on r cells c s ≡ None → state_in (fire r cells m) c s ≡ state_in m c s
  unfolding state_in
  state_in-stays c s within stays none = rw (site_in-fire_old r cells m c s within stays) (by_site (site_in m c s))
    where
      by_site : (o : Option AgentSite) → option_and_then (λ (x : AgentSite). x.state) (option_map (site_after r cells (length m) c s) o) ≡ option_and_then (λ (x : AgentSite). x.state) o
      by_site None = refl
      by_site (Some x) = rw none refl

  -- a written state stands where a state stood
  pub state_in-written : (c s u w : ℕ) → c < length m → fate_on r cells c ≢ Some Deleted → state_on r cells c s ≡ Some u → state_in m c s ≡ Some w → state_in (fire r cells m) c s ≡ Some u
  unfolding state_in
  state_in-written c s u w within stays written was =
      let x = some_then (λ (x : AgentSite). x.state) (site_in m c s) w was in
      rw (site_in-fire_old r cells m c s within stays, x.1, written) refl

  pub state_in-of_written : (c s u w : ℕ) → c < length m → fate_on r cells c ≢ Some Deleted → state_on r cells c s ≡ Some u → state_in (fire r cells m) c s ≡ Some w → u ≡ w
  unfolding state_in
  state_in-of_written c s u w within stays written now = by_site (site_in m c s) (rw (site_in-fire_old r cells m c s within stays) at now)
    where
      by_site : (o : Option AgentSite) → option_and_then (λ (x : AgentSite). x.state) (option_map (site_after r cells (length m) c s) o) ≡ Some w → u ≡ w
      by_site None e = absurd cc
      by_site (Some x) e = let f : Some u ≡ Some w = rw written at e in cc

  -- a link that isn't written stays, unless its partner's site is touched
  pub partner_in-stays : (c s : ℕ) → c < length m → fate_on r cells c ≢ Some Deleted → link_on r cells c s ≡ None → partner_in (fire r cells m) c s ≡ kept_partner r cells (partner_in m c s)
  unfolding partner_in
  partner_in-stays c s within stays none = rw (site_in-fire_old r cells m c s within stays) (by_site (site_in m c s))
    where
      by_site : (o : Option AgentSite) → option_and_then (λ (x : AgentSite). x.partner) (option_map (site_after r cells (length m) c s) o) ≡ kept_partner r cells (option_and_then (λ (x : AgentSite). x.partner) o)
      by_site None = refl
      by_site (Some x) = rw none refl

  -- a partner that stays meets after the firing what it met before it, and the other way round
  module _ (others : List ℕ) where
    pub met_before : (o : Option (ℕ × ℕ)) (b : LinkTest) → ((d t : ℕ) → o ≡ Some (d, t) → d < length m) → MeetsLink (fire r cells m) others o b → MeetsLink m others o b
    met_before o test.Any within met = tt
    met_before o test.Free within met = met
    met_before o test.Bound within met = met
    met_before o (test.Partner b y) within met = (met.0, met.1, (type_in-fire_old r cells m met.0 b (within met.0 y met.1) met.2).0)
    met_before o (test.To n t) within met = met

    pub met_after : (o : Option (ℕ × ℕ)) (b : LinkTest) → ((d t : ℕ) → o ≡ Some (d, t) → (d < length m) × (fate_on r cells d ≢ Some Deleted)) → MeetsLink m others o b → MeetsLink (fire r cells m) others o b
    met_after o test.Any lives met = tt
    met_after o test.Free lives met = met
    met_after o test.Bound lives met = met
    met_after o (test.Partner b y) lives met = let lives' = lives met.0 y met.1 in (met.0, met.1, type_in-stays met.0 lives'.0 lives'.1 ∙ met.2)
    met_after o (test.To n t) lives met = met

module _ (sig : List TypeEntry) (r : RuleParts) (cells : List ℕ) (m : List (Option Agent)) (over : IsMixtureOver sig m) (rule : IsRuleOver sig r) (at : IsEmbedding r.left m cells) where
  pub left_within : (n c : ℕ) → slice_get cells n ≡ Some c → c < length m
  left_within n c e = let a = typed_node r.left m cells at n c e in type_within m c a.0 a.2

  -- a partner is a cell of the mixture
  pub partner_below : (c s d t : ℕ) → partner_in m c s ≡ Some (d, t) → d < length m
  partner_below c s d t e = partner_within m d t c s (over.linked.both_ways c s d t e)

  -- the type of an end is the one of its cell after the firing
  pub type_of_end : (e : End) (d b : ℕ) → end_cell cells (length m) e ≡ Some d → type_in (fire r cells m) d ≡ Some b → end_type r e ≡ Some b
  type_of_end («end».Left n) d b on is =
      let left = typed_node r.left m cells at n d on in
      left.1 ∙ sym left.2 ∙ (type_in-fire_old r cells m d b (left_within n d on) is).0
  type_of_end («end».Made k) d b on is = let e : length m + k ≡ d = cc in sym (type_in-fire_new r cells m k d e) ∙ is

  -- an end with a written link has a cell
  pub end_exists : (e : End) (s : ℕ) (w : Written) → end_link r e s ≡ Some w → (d : ℕ) × (end_cell cells (length m) e ≡ Some d)
  unfolding written_link action_at
  end_exists («end».Left n) s w is =
      let action = some_then (λ (a : SiteAction). a.link) (option_and_then (λ (a : NodeAction). slice_get a.sites s) (slice_get r.actions n)) w is in
      let node = some_then (λ (a : NodeAction). slice_get a.sites s) (slice_get r.actions n) action.0 action.1 in
      some_at cells n (rw (at.count, ← rule.is_rule.actions) (slice_get_within r.actions n node.0 node.1))
  end_exists («end».Made k) s w is = (length m + k, refl)

  -- a site whose link is written is there
  pub written_site : (n c s : ℕ) (w : Written) → slice_get cells n ≡ Some c → written_link r n s ≡ Some w → (y : AgentSite) × (site_in m c s ≡ Some y)
  unfolding written_link action_at
  written_site n c s w here is =
      let action = some_then (λ (a : SiteAction). a.link) (option_and_then (λ (a : NodeAction). slice_get a.sites s) (slice_get r.actions n)) w is in
      let node = some_then (λ (a : NodeAction). slice_get a.sites s) (slice_get r.actions n) action.0 action.1 in
      let left = typed_node r.left m cells at n c here in
      let site = site_of_type sig m over c left.0 s left.2 (rw (← rule.action_sites n left.0 node.0 node.1 left.1) (slice_get_within node.0.sites s action.0 node.2)) in
      (site.0, site.1)

  -- and has the written partner afterwards
  pub partner_in-written : (n c s : ℕ) (w : Written) → slice_get cells n ≡ Some c → fate_on r cells c ≢ Some Deleted → written_link r n s ≡ Some w → partner_in (fire r cells m) c s ≡ target cells (length m) w
  partner_in-written n c s w here stays is =
      let y = written_site n c s w here is in
      let on : node_on cells c ≡ Some n = node_on-at cells c n at.different here in
      partner_in-fire_kept r cells m c s y.0 (left_within n c here) stays y.1 ∙ rw (on, is) refl
