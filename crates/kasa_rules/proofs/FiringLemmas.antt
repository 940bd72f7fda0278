-- Laws of a firing: what stands in each cell afterwards, and that links stay mutual.
use Rattle.std.proofs.Common.{◌≡◌, ◌≢◌, ℕ, zero, suc, ◌+◌, ◌<◌, ◌⊎◌, inl, inr, List, [], ◌∷◌, refl, sym, ap, ◌∙◌, subst, length, arith, Bool, true, false, eqb, eqb-true, eq-eqb}
use Rattle.std.proofs.lemmas.List.{length-map}
use Rattle.std.specs.Prelude.{Option, Some, None, slice_get, option_map, option_and_then}
use Rattle.std.proofs.lemmas.Option.{slice_get-map, slice_get_within}
pub use Rattle.kasa_lists.proofs.Maps.{slice_get-map_from}
use Rattle.kasa_lists.proofs.Maps.{length-map_from}
use Rattle.kasa_lists.proofs.Numbers.{below_or}
use Rattle.kasa_lists.proofs.Options.{some_map, some_then}
use Rattle.kasa_lists.proofs.Elements.{some_at, slice_get-append_left, slice_get-append_right}
use Rattle.kasa_lists.specs.Lists.{map_from, AllDifferent}
use Rattle.kasa_graph.specs.declared.mixture.Agent.{Agent}
use Rattle.kasa_graph.specs.declared.mixture.AgentSite.{AgentSite}
use Rattle.kasa_graph.specs.Mixture.{agent_in, type_in, site_in, partner_in}
use Rattle.kasa_rules.specs.declared.rule.MadeAgent.{MadeAgent}
use Rattle.kasa_rules.specs.declared.rule.MadeSite.{MadeSite}
use Rattle.kasa_rules.specs.declared.rule.Fate.{Fate}
use Rattle.kasa_rules.specs.declared.rule.Fate.TheVariants.{Deleted, Kept}
use Rattle.kasa_rules.specs.declared.rule.Written.{Written}
use Rattle.kasa_rules.specs.Rule.{RuleParts, fate_at, action_at, written_link, end_link, touches, touched, made_site, IsRuleOver}
use Rattle.kasa_rules.specs.declared.rule.End.{End}
use Rattle.kasa_rules.specs.declared.rule.End.TheVariants.{Left, Made}
use Rattle.kasa_rules.specs.declared.rule.Written.TheVariants.{Free, To}
use Rattle.kasa_rules.specs.declared.rule.SiteAction.{SiteAction}
use Rattle.kasa_rules.specs.declared.rule.NodeAction.{NodeAction}
use Rattle.kasa_graph.specs.Signature.{TypeEntry}
use Rattle.kasa_graph.specs.Signature.{state_counts}
use Rattle.kasa_graph.specs.Pattern.{agent_at}
use Rattle.kasa_graph.specs.Mixture.{IsMixture, IsMixtureOver}
use Rattle.kasa_graph.specs.Embedding.{IsEmbedding}
use Rattle.std.specs.Option.{option_map_or}
use Rattle.kasa_rules.specs.Firing.{fire, end_cell, partner_at, unless, kept_partner, touched_on, found_or, node_on, fate_on, link_on, cell_after, agent_after, site_after, made_after, made_site_after, unless_deleted, target, partner_after}

-- the cells that were there before, and those of the created agents
pub slice_get-fire_old : (r : RuleParts) (cells : List ℕ) (m : List (Option Agent)) (c : ℕ) → c < length m → slice_get (fire r cells m) c ≡ option_map (cell_after r cells (length m) c) (slice_get m c)
unfolding fire
slice_get-fire_old r cells m c within =
    slice_get-append_left (map_from zero (cell_after r cells (length m)) m) _ c (rw (length-map_from (cell_after r cells (length m)) m zero) within)
    ∙ slice_get-map_from (cell_after r cells (length m)) m zero c c (omega arith)

pub slice_get-fire_new : (r : RuleParts) (cells : List ℕ) (m : List (Option Agent)) (k c : ℕ) → length m + k ≡ c → slice_get (fire r cells m) c ≡ option_map (made_after cells (length m)) (slice_get r.made k)
unfolding fire
slice_get-fire_new r cells m k c e =
    slice_get-append_right (map_from zero (cell_after r cells (length m)) m) _ k c (rw (length-map_from (cell_after r cells (length m)) m zero) e)
    ∙ slice_get-map (made_after cells (length m)) r.made k

-- ---- the left node on a cell

found_cases : (b : Bool) (later : Option ℕ) (n : ℕ) → found_or b later ≡ Some n → ((b ≡ true) × (n ≡ zero)) ⊎ ((k : ℕ) × (later ≡ Some k) × (n ≡ suc k))
found_cases true later n e = inl (refl, cc)
found_cases false None n e = absurd cc
found_cases false (Some k) n e = inr (k, refl, cc)

pub node_on-found : (cells : List ℕ) (c n : ℕ) → node_on cells c ≡ Some n → slice_get cells n ≡ Some c
unfolding node_on
node_on-found [] c n e = absurd cc
node_on-found (d ∷ cells) c n e =
    elim (found_cases (eqb c d) (node_on cells c) n e) [
      | inl here ↦ rw here.1 (ap Some (sym (eqb-true c d here.0)))
      | inr later ↦ rw later.2 (node_on-found cells c later.0 later.1)
    ]

found_some : (b : Bool) (later : Option ℕ) (k : ℕ) → later ≡ Some k → (n : ℕ) × (found_or b later ≡ Some n)
found_some true later k e = (zero, refl)
found_some false later k e = (suc k, rw e refl)

node_on-some : (cells : List ℕ) (c n : ℕ) → slice_get cells n ≡ Some c → (k : ℕ) × (node_on cells c ≡ Some k)
unfolding node_on
node_on-some [] c n e = absurd cc
node_on-some (d ∷ cells) c zero e = let same : c ≡ d = cc in (zero, rw (eq-eqb c d same) refl)
node_on-some (d ∷ cells) c (suc n) e =
    let later = node_on-some cells c n e in
    found_some (eqb c d) (node_on cells c) later.0 later.1

pub node_on-at : (cells : List ℕ) (c n : ℕ) → AllDifferent cells → slice_get cells n ≡ Some c → node_on cells c ≡ Some n
node_on-at cells c n different e =
    let some = node_on-some cells c n e in
    let same : some.0 ≡ n = different some.0 n c (node_on-found cells c some.0 some.1) e in
    some.1 ∙ ap Some same

-- ---- partners after the firing

abbrev unless_gone : Option Fate → Option (ℕ × ℕ) → Option (ℕ × ℕ)
unless_gone (Some Deleted) p = None
unless_gone (Some Kept) p = p
unless_gone None p = p

module _ (r : RuleParts) (cells : List ℕ) (m : List (Option Agent)) where
  abbrev partner_of_site : ℕ → ℕ → AgentSite → Option (ℕ × ℕ)
  partner_of_site c s x = unless_gone (fate_on r cells c) (partner_after r cells (length m) (link_on r cells c s) x.partner)

  sites_after : (c s : ℕ) (sites : List AgentSite) → option_and_then (λ (x : AgentSite). x.partner) (slice_get (map_from zero (site_after r cells (length m) c) sites) s) ≡ option_and_then (λ (x : AgentSite). partner_after r cells (length m) (link_on r cells c s) x.partner) (slice_get sites s)
  sites_after c s sites = rw (slice_get-map_from (site_after r cells (length m) c) sites zero s s (omega arith)) (each (slice_get sites s))
    where
      each : (o : Option AgentSite) → option_and_then (λ (x : AgentSite). x.partner) (option_map (site_after r cells (length m) c s) o) ≡ option_and_then (λ (x : AgentSite). partner_after r cells (length m) (link_on r cells c s) x.partner) o
      each None = refl
      each (Some x) = refl

  gone : (c s : ℕ) (o : Option AgentSite) (p : AgentSite → Option (ℕ × ℕ)) → option_and_then (λ (x : AgentSite). unless_gone (Some Deleted) (p x)) o ≡ None
  gone c s None p = refl
  gone c s (Some x) p = refl

  by_fate : (c s : ℕ) (a : Agent) (fate : Option Fate) → option_and_then (λ (x : AgentSite). x.partner) (option_and_then (λ (b : Agent). slice_get b.sites s) (unless_deleted fate (agent_after r cells (length m) c a))) ≡ option_and_then (λ (x : AgentSite). unless_gone fate (partner_after r cells (length m) (link_on r cells c s) x.partner)) (slice_get a.sites s)
  by_fate c s a (Some Deleted) = sym (gone c s (slice_get a.sites s) (λ x. partner_after r cells (length m) (link_on r cells c s) x.partner))
  by_fate c s a (Some Kept) = sites_after c s a.sites
  by_fate c s a None = sites_after c s a.sites

  pub partner_in-fire_old : (c s : ℕ) → c < length m → partner_in (fire r cells m) c s ≡ option_and_then (partner_of_site c s) (site_in m c s)
  unfolding partner_in site_in agent_in
  partner_in-fire_old c s within = rw (slice_get-fire_old r cells m c within) (by_cell (slice_get m c))
    where
      by_cell : (o : Option (Option Agent)) → option_and_then (λ (x : AgentSite). x.partner) (option_and_then (λ (a : Agent). slice_get a.sites s) (option_and_then (λ (cell : Option Agent). cell) (option_map (cell_after r cells (length m) c) o))) ≡ option_and_then (partner_of_site c s) (option_and_then (λ (a : Agent). slice_get a.sites s) (option_and_then (λ (cell : Option Agent). cell) o))
      by_cell None = refl
      by_cell (Some None) = refl
      by_cell (Some (Some a)) = by_fate c s a (fate_on r cells c)

  pub partner_in-fire_new : (k c s : ℕ) → length m + k ≡ c → partner_in (fire r cells m) c s ≡ option_and_then (λ (x : MadeSite). target cells (length m) x.link) (made_site r k s)
  unfolding partner_in site_in agent_in made_site
  partner_in-fire_new k c s e = rw (slice_get-fire_new r cells m k c e) (by_made (slice_get r.made k))
    where
      each : (o : Option MadeSite) → option_and_then (λ (x : AgentSite). x.partner) (option_map (made_site_after cells (length m)) o) ≡ option_and_then (λ (x : MadeSite). target cells (length m) x.link) o
      each None = refl
      each (Some x) = refl

      by_made : (o : Option MadeAgent) → option_and_then (λ (x : AgentSite). x.partner) (option_and_then (λ (a : Agent). slice_get a.sites s) (option_and_then (λ (cell : Option Agent). cell) (option_map (made_after cells (length m)) o))) ≡ option_and_then (λ (x : MadeSite). target cells (length m) x.link) (option_and_then (λ (a : MadeAgent). slice_get a.sites s) o)
      by_made None = refl
      by_made (Some a) = rw (slice_get-map (made_site_after cells (length m)) a.sites s) (each (slice_get a.sites s))

alive : (fate : Option Fate) (p : Option (ℕ × ℕ)) → fate ≢ Some Deleted → unless_gone fate p ≡ p
alive (Some Deleted) p ne = absurd (ne refl)
alive (Some Kept) p ne = refl
alive None p ne = refl

-- ---- touched sites

pub untouched : (r : RuleParts) (cells : List ℕ) (c s : ℕ) → touched_on r cells c s ≡ false → (fate_on r cells c ≢ Some Deleted) × (link_on r cells c s ≡ None)
unfolding touched
untouched r cells c s e = by_node (node_on cells c) e
  where
    by_fate' : (fate : Option Fate) (link : Option Written) → touches fate link ≡ false → (fate ≢ Some Deleted) × (link ≡ None)
    by_fate' (Some Deleted) link f = absurd cc
    by_fate' (Some Kept) None f = (λ g. cc, refl)
    by_fate' (Some Kept) (Some w) f = absurd cc
    by_fate' None None f = (λ g. cc, refl)
    by_fate' None (Some w) f = absurd cc

    by_node : (o : Option ℕ) → option_map_or (λ n. touched r n s) o false ≡ false → (option_and_then (fate_at r) o ≢ Some Deleted) × (option_and_then (λ n. written_link r n s) o ≡ None)
    by_node None f = (λ g. cc, refl)
    by_node (Some n) f = by_fate' (fate_at r n) (written_link r n s) f

pub not_touched : (r : RuleParts) (cells : List ℕ) (c s : ℕ) → fate_on r cells c ≢ Some Deleted → link_on r cells c s ≡ None → touched_on r cells c s ≡ false
unfolding touched
not_touched r cells c s ne e = by_node (node_on cells c) ne e
  where
    by_fate' : (fate : Option Fate) (link : Option Written) → fate ≢ Some Deleted → link ≡ None → touches fate link ≡ false
    by_fate' (Some Deleted) link f g = absurd (f refl)
    by_fate' (Some Kept) link f g = rw g refl
    by_fate' None link f g = rw g refl

    by_node : (o : Option ℕ) → option_and_then (fate_at r) o ≢ Some Deleted → option_and_then (λ n. written_link r n s) o ≡ None → option_map_or (λ n. touched r n s) o false ≡ false
    by_node None f g = refl
    by_node (Some n) f g = by_fate' (fate_at r n) (written_link r n s) f g

living : (m : List (Option Agent)) (d t : ℕ) (y : AgentSite) → site_in m d t ≡ Some y → d < length m
unfolding site_in agent_in
living m d t y e =
    let agent = some_then (λ (a : Agent). slice_get a.sites t) (option_and_then (λ (x : Option Agent). x) (slice_get m d)) y e in
    let cell = some_then (λ (x : Option Agent). x) (slice_get m d) agent.0 agent.1 in
    slice_get_within m d cell.0 cell.1

-- ---- links stay mutual

module _ (sig : List TypeEntry) (r : RuleParts) (cells : List ℕ) (m : List (Option Agent)) (over : IsMixtureOver sig m) (rule : IsRuleOver sig r) (at : IsEmbedding r.left m cells) where
  has_site : (n c s : ℕ) (action : SiteAction) → slice_get cells n ≡ Some c → action_at r n s ≡ Some action → (x : AgentSite) × (site_in m c s ≡ Some x) × (c < length m)
  unfolding action_at agent_at type_in site_in agent_in
  has_site n c s action here is =
      let node = some_then (λ (a : NodeAction). slice_get a.sites s) (slice_get r.actions n) action is in
      let within : n < length r.left = rw (← rule.is_rule.actions) (slice_get_within r.actions n node.0 node.1) in
      let left = some_at r.left n within in
      let typed : agent_at r.left n ≡ Some left.0.agent = rw left.1 refl in
      let agent = some_map (λ (a : Agent). a.agent) (agent_in m c) left.0.agent (at.types n c left.0.agent here typed) in
      let cell = some_then (λ (x : Option Agent). x) (slice_get m c) agent.0 agent.1 in
      let counts = over.sites c agent.0 agent.1 in
      let shape = rule.action_sites n left.0.agent node.0 node.1 typed in
      let inside = slice_get_within node.0.sites s action node.2 in
      let long : length agent.0.sites ≡ length node.0.sites = sym (length-map agent.0.sites (λ (x : AgentSite). x.states)) ∙ ap length counts ∙ ap (λ (a : ℕ). length (state_counts sig a)) agent.2 ∙ sym shape in
      let site = some_at agent.0.sites s (rw long inside) in
      (site.0, ap (λ (o : Option Agent). option_and_then (λ (a : Agent). slice_get a.sites s) o) agent.1 ∙ site.1, slice_get_within m c cell.0 cell.1)

  -- the partner at an end with a written link
  linked : (e : End) (s c : ℕ) (w : Written) → end_link r e s ≡ Some w → end_cell cells (length m) e ≡ Some c → partner_in (fire r cells m) c s ≡ target cells (length m) w
  unfolding written_link
  linked (Left n) s c w is here =
      let action = some_then (λ (a : SiteAction). a.link) (action_at r n s) w is in
      let site = has_site n c s action.0 here action.1 in
      let on : node_on cells c ≡ Some n = node_on-at cells c n at.different here in
      partner_in-fire_old r cells m c s site.2 ∙ rw (site.1, on, is) (alive (fate_at r n) _ (λ gone'. let none : written_link r n s ≡ None = rule.is_rule.deleted_link n s gone' in let some' : written_link r n s ≡ Some w = is in cc))
  linked (Made k) s c w is here =
      let site = some_map (λ (x : MadeSite). x.link) (made_site r k s) w is in
      let e : length m + k ≡ c = cc in
      partner_in-fire_new r cells m k c s e ∙ rw (site.1, site.2) refl

  from_written : (e : End) (s c : ℕ) (w : Written) (d t : ℕ) → end_link r e s ≡ Some w → end_cell cells (length m) e ≡ Some c → target cells (length m) w ≡ Some (d, t) → partner_in (fire r cells m) d t ≡ Some (c, s)
  from_written e s c Free d t is here to = absurd cc
  from_written e s c (To f u) d t is here to =
      let there = some_map (partner_at u) (end_cell cells (length m) f) (d, t) to in
      let same_cell : there.0 ≡ d = ap (λ (p : ℕ × ℕ). p.0) there.2 in
      let same_site : u ≡ t = ap (λ (p : ℕ × ℕ). p.1) there.2 in
      let back : end_link r f t ≡ Some (To e s) = rw (← same_site) (rule.is_rule.both_ways e f s u is) in
      linked f t d (To e s) back (there.1 ∙ ap Some same_cell) ∙ rw here refl

  kept_some : (p : Option (ℕ × ℕ)) (d t : ℕ) → kept_partner r cells p ≡ Some (d, t) → (p ≡ Some (d, t)) × (touched_on r cells d t ≡ false)
  kept_some None d t e = absurd cc
  kept_some (Some q) d t e = by_test (touched_on r cells q.0 q.1) refl e
    where
      by_test : (b : Bool) → touched_on r cells q.0 q.1 ≡ b → unless b q ≡ Some (d, t) → (Some q ≡ Some (d, t)) × (touched_on r cells d t ≡ false)
      by_test true f g = absurd cc
      by_test false f g =
          let same : q ≡ (d, t) = cc in
          (g, subst (λ (p : ℕ × ℕ). touched_on r cells p.0 p.1 ≡ false) same f)

  from_kept : (c s : ℕ) (x : AgentSite) (d t : ℕ) → site_in m c s ≡ Some x → fate_on r cells c ≢ Some Deleted → link_on r cells c s ≡ None → kept_partner r cells x.partner ≡ Some (d, t) → partner_in (fire r cells m) d t ≡ Some (c, s)
  unfolding partner_in
  from_kept c s x d t here stays none kept =
      let old = kept_some x.partner d t kept in
      let bound : partner_in m c s ≡ Some (d, t) = rw here old.0 in
      let back = over.linked.both_ways c s d t bound in
      let site = some_then (λ (y : AgentSite). y.partner) (site_in m d t) (c, s) back in
      let free = untouched r cells d t old.1 in
      let within : d < length m = living m d t site.0 site.1 in
      partner_in-fire_old r cells m d t within ∙ rw (site.1, free.1, site.2, not_touched r cells c s stays none) (alive (fate_on r cells d) _ free.0)

  by_old : (c s d t : ℕ) (x : AgentSite) → site_in m c s ≡ Some x → (fate : Option Fate) → fate_on r cells c ≡ fate → (link : Option Written) → link_on r cells c s ≡ link → unless_gone fate (partner_after r cells (length m) link x.partner) ≡ Some (d, t) → partner_in (fire r cells m) d t ≡ Some (c, s)
  by_old c s d t x here (Some Deleted) f link g e = absurd cc
  by_old c s d t x here (Some Kept) f None g e = from_kept c s x d t here (λ h. cc) g e
  by_old c s d t x here (Some Kept) f (Some w) g e =
      let on = some_then (λ n. written_link r n s) (node_on cells c) w g in
      from_written (Left on.0) s c w d t on.2 (node_on-found cells c on.0 on.1) e
  by_old c s d t x here None f None g e = from_kept c s x d t here (λ h. cc) g e
  by_old c s d t x here None f (Some w) g e =
      let on = some_then (λ n. written_link r n s) (node_on cells c) w g in
      from_written (Left on.0) s c w d t on.2 (node_on-found cells c on.0 on.1) e

  both_ways_after : (c s d t : ℕ) → partner_in (fire r cells m) c s ≡ Some (d, t) → partner_in (fire r cells m) d t ≡ Some (c, s)
  both_ways_after c s d t e =
      elim (below_or c (length m)) [
        | inl within ↦
            let old = some_then (partner_of_site r cells m c s) (site_in m c s) (d, t) (sym (partner_in-fire_old r cells m c s within) ∙ e) in
            by_old c s d t old.0 old.1 (fate_on r cells c) refl (link_on r cells c s) refl old.2
        | inr k ↦
            let made = some_then (λ (x : MadeSite). target cells (length m) x.link) (made_site r k.0 s) (d, t) (sym (partner_in-fire_new r cells m k.0 c s k.1) ∙ e) in
            from_written (Made k.0) s c made.0.link d t (ap (λ (o : Option MadeSite). option_map (λ (x : MadeSite). x.link) o) made.1) (ap Some k.1) made.2
      ]

  left_within : (n c : ℕ) → slice_get cells n ≡ Some c → c < length m
  unfolding agent_at type_in agent_in
  left_within n c here =
      let left = some_at r.left n (rw (← at.count) (slice_get_within cells n c here)) in
      let typed : agent_at r.left n ≡ Some left.0.agent = rw left.1 refl in
      let agent = some_map (λ (a : Agent). a.agent) (agent_in m c) left.0.agent (at.types n c left.0.agent here typed) in
      let cell = some_then (λ (x : Option Agent). x) (slice_get m c) agent.0 agent.1 in
      slice_get_within m c cell.0 cell.1

  same_end : (e f : End) (c : ℕ) → end_cell cells (length m) e ≡ Some c → end_cell cells (length m) f ≡ Some c → e ≡ f
  same_end (Left n) (Left k) c p q = ap Left (at.different n k c p q)
  same_end (Left n) (Made k) c p q = let e : length m + k ≡ c = cc in let h = left_within n c p in absurd (omega arith)
  same_end (Made n) (Left k) c p q = let e : length m + n ≡ c = cc in let h = left_within k c q in absurd (omega arith)
  same_end (Made n) (Made k) c p q = let e : length m + n ≡ c = cc in let f : length m + k ≡ c = cc in ap Made (omega arith)

  not_itself : (e : End) (s c : ℕ) (w : Written) → end_link r e s ≡ Some w → end_cell cells (length m) e ≡ Some c → target cells (length m) w ≢ Some (c, s)
  not_itself e s c Free is here to = cc
  not_itself e s c (To f u) is here to =
      let there = some_map (partner_at u) (end_cell cells (length m) f) (c, s) to in
      let same_cell : there.0 ≡ c = ap (λ (p : ℕ × ℕ). p.0) there.2 in
      let same_site : u ≡ s = ap (λ (p : ℕ × ℕ). p.1) there.2 in
      let same = same_end e f c here (there.1 ∙ ap Some same_cell) in
      rule.is_rule.apart e s (is ∙ rw (same_site, same) refl)

  apart_old : (c s : ℕ) (x : AgentSite) → site_in m c s ≡ Some x → (fate : Option Fate) (link : Option Written) → link_on r cells c s ≡ link → unless_gone fate (partner_after r cells (length m) link x.partner) ≢ Some (c, s)
  unfolding partner_in
  apart_old c s x here (Some Deleted) link g e = cc
  apart_old c s x here (Some Kept) None g e = over.linked.apart c s (rw here (kept_some x.partner c s e).0)
  apart_old c s x here None None g e = over.linked.apart c s (rw here (kept_some x.partner c s e).0)
  apart_old c s x here (Some Kept) (Some w) g e =
      let on = some_then (λ n. written_link r n s) (node_on cells c) w g in
      not_itself (Left on.0) s c w on.2 (node_on-found cells c on.0 on.1) e
  apart_old c s x here None (Some w) g e =
      let on = some_then (λ n. written_link r n s) (node_on cells c) w g in
      not_itself (Left on.0) s c w on.2 (node_on-found cells c on.0 on.1) e

  apart_after : (c s : ℕ) → partner_in (fire r cells m) c s ≢ Some (c, s)
  apart_after c s e =
      elim (below_or c (length m)) [
        | inl within ↦
            let old = some_then (partner_of_site r cells m c s) (site_in m c s) (c, s) (sym (partner_in-fire_old r cells m c s within) ∙ e) in
            apart_old c s old.0 old.1 (fate_on r cells c) (link_on r cells c s) refl old.2
        | inr k ↦
            let made = some_then (λ (x : MadeSite). target cells (length m) x.link) (made_site r k.0 s) (c, s) (sym (partner_in-fire_new r cells m k.0 c s k.1) ∙ e) in
            not_itself (Made k.0) s c made.0.link (ap (λ (o : Option MadeSite). option_map (λ (x : MadeSite). x.link) o) made.1) (ap Some k.1) made.2
      ]

  -- a firing keeps links mutual
  pub IsMixture-fire : IsMixture (fire r cells m)
  IsMixture-fire = record { both_ways = both_ways_after; apart = apart_after }
