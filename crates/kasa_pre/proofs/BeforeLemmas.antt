-- The pattern that is cut out of the mixture before a firing can have stood before each pattern that stands afterwards.
use Rattle.std.proofs.Common.{◌≡◌, ◌≢◌, ℕ, zero, ◌+◌, ◌<◌, inl, inr, Bool, true, false, List, ◌++◌, refl, sym, ap, ◌∙◌, length, map, arith}
use Rattle.std.specs.Prelude.{Option, Some, None, MatchOption, slice_get, option_map, option_and_then}
use Rattle.std.specs.Option.{option_map_or}
use Rattle.std.proofs.lemmas.Option.{slice_get_within, some_pair_parts}
use Rattle.kasa_graph.specs.declared.pattern.Node.{Node}
use Rattle.kasa_graph.specs.declared.pattern.SiteTests.{SiteTests}
use Rattle.kasa_graph.specs.declared.mixture.Agent.{Agent}
use Rattle.kasa_graph.specs.declared.mixture.AgentSite.{AgentSite}
use Rattle.kasa_graph.specs.Signature.{TypeEntry}
use Rattle.kasa_graph.specs.declared.pattern.StateTest.TheVariants as state
use Rattle.kasa_graph.specs.declared.pattern.LinkTest.{LinkTest}
use Rattle.kasa_graph.specs.declared.pattern.LinkTest.TheVariants as test
use Rattle.kasa_graph.specs.Lists.{Has, AllDifferent}
use Rattle.kasa_graph.specs.Pattern.{agent_at, site_at, state_test, link_test, types_of, StateImplies, LinkImplies}
use Rattle.kasa_graph.specs.Mixture.{type_in, site_in, state_in, partner_in, IsMixtureOver}
use Rattle.kasa_graph.specs.Embedding.{IsEmbedding, MeetsState, MeetsLink}
use Rattle.kasa_rules.specs.declared.rule.Fate.{Fate}
use Rattle.kasa_rules.specs.declared.rule.Fate.TheVariants.{Deleted, Kept}
use Rattle.kasa_rules.specs.declared.rule.End.{End}
use Rattle.kasa_rules.specs.declared.rule.End.TheVariants as «end»
use Rattle.kasa_rules.specs.declared.rule.Written.{Written}
use Rattle.kasa_rules.specs.declared.rule.Written.TheVariants.{Free, To}
use Rattle.kasa_rules.specs.declared.rule.NodeAction.{NodeAction}
use Rattle.kasa_rules.specs.declared.rule.SiteAction.{SiteAction}
use Rattle.kasa_rules.specs.declared.rule.MadeSite.{MadeSite}
use Rattle.kasa_rules.specs.Rule.{RuleParts, fate_at, action_at, written_state, written_link, made_site, made_link, touched, end_link, IsRuleOver}
use Rattle.kasa_rules.specs.Firing.{fire, node_on, fate_on, link_on, touched_on, end_cell, target, unless, kept_partner, partner_after, state_after}
use Rattle.kasa_graph.proofs.ListLemmas.{some_then, some_at, slice_get-append_left, slice_get-append_right}
use Rattle.kasa_rules.proofs.FiringLemmas.{node_on-found, node_on-at}
use Rattle.kasa_pre.specs.declared.Stand.{Stand}
use Rattle.kasa_pre.specs.declared.Stand.TheVariants.{Left, Made, Outside}
use Rattle.kasa_pre.specs.declared.FreedBy.{FreedBy}
use Rattle.kasa_pre.specs.Place.{ImpliesAt}
use Rattle.kasa_pre.specs.Before.{FitsStand, AreStands, place_of, outside_types, stand_of, link_written, WrittenMeets, IsFreed, AreFreed, StateBefore, LinkBefore, IsBefore}
use Rattle.kasa_pre.specs.LiesOn.{LiesOn, AllLieOn, outside_cells, cells_before, AreJustFreed}
use Rattle.kasa_rules.proofs.FiredLemmas.{type_within, partner_within, type_in-fire_old, state_in-fire_old, partner_in-fire_kept, type_in-fire_new, state_in-fire_new, partner_in-fire_made}
use Rattle.kasa_graph.proofs.ShapeLemmas.{IsShaped, site_or_any, agent_at-node}
use Rattle.kasa_pre.proofs.ShapeLemmas.{site_of_node}
use Rattle.kasa_pre.proofs.PlaceLemmas.{place_from-left, place_from-outside, outside_cells-node, outside_types-cells, in_append, AllDifferent-outside}
use Rattle.kasa_pre.proofs.Cut.{cut, cut_node, IsEmbedding-cut}
use Rattle.kasa_pre.proofs.LeftLemmas.{type_of_end, typed_node, cut_node_type, types_of-cut, types-left, left_states-cut, left_links-cut}
use Rattle.kasa_pre.proofs.CutLemmas.{bond_in_cut, IsPatternOver-cut, StateImplies-cut, ImpliesAt-cut}

-- ---- general facts

fate_kept : (r : RuleParts) (n : ℕ) → n < length r.actions → fate_at r n ≢ Some Deleted → fate_at r n ≡ Some Kept
unfolding fate_at
fate_kept r n within stays =
    let action = some_at r.actions n within in
    ap (option_map (λ (a : NodeAction). a.fate)) action.1 ∙ by_fate action.0.fate (λ e. stays (ap (option_map (λ (a : NodeAction). a.fate)) action.1 ∙ ap Some e))
  where
    by_fate : (fate : Fate) → fate ≢ Deleted → Some fate ≡ Some Kept
    by_fate Deleted ne = absurd (ne refl)
    by_fate Kept ne = refl

pub no_node_on : (cells : List ℕ) (c : ℕ) → ¬ Has cells c → node_on cells c ≡ None
no_node_on cells c out = by_node (node_on cells c) refl
  where
    by_node : (o : Option ℕ) → node_on cells c ≡ o → node_on cells c ≡ None
    by_node None e = e
    by_node (Some n) e = absurd (out (n, node_on-found cells c n e))

pub left_touched : (r : RuleParts) (cells : List ℕ) (d t : ℕ) → touched_on r cells d t ≡ true → (n : ℕ) × (slice_get cells n ≡ Some d) × (touched r n t ≡ true)
left_touched r cells d t e = by_node (node_on cells d) refl e
  where
    by_node : (o : Option ℕ) → node_on cells d ≡ o → option_map_or (λ n. touched r n t) o false ≡ true → (n : ℕ) × (slice_get cells n ≡ Some d) × (touched r n t ≡ true)
    by_node None f g = absurd cc
    by_node (Some n) f g = (n, node_on-found cells d n f, g)

-- a created bond is one of the rule's
pub made_end : (r : RuleParts) (k s : ℕ) (e : End) (t : ℕ) → made_link r k s ≡ To e t → end_link r («end».Made k) s ≡ Some (To e t)
unfolding made_link
made_end r k s e t is = by_site (made_site r k s) is
  where
    by_site : (o : Option MadeSite) → option_map_or (λ (x : MadeSite). x.link) o Free ≡ To e t → option_map (λ (x : MadeSite). x.link) o ≡ Some (To e t)
    by_site None h = absurd cc
    by_site (Some x) h = ap Some h

-- the pattern has tests at the site
abbrev HasTest : List Node → ℕ → ℕ → Type 0
HasTest v i s = (x : SiteTests) × (site_at v i s ≡ Some x)

-- ---- a pattern v that stands after a firing, with the stands of its nodes

module _ (sig : List TypeEntry) (r : RuleParts) (cells : List ℕ) (m : List (Option Agent)) (over : IsMixtureOver sig m) (rule : IsRuleOver sig r) (at : IsEmbedding r.left m cells) (v : List Node) (shaped : IsShaped sig v) (after : List ℕ) (later : IsEmbedding v (fire r cells m) after) (stands : List Stand) (lie : AllLieOn cells (length m) stands after) where
  cell_of : (i : ℕ) (stand : Stand) → slice_get stands i ≡ Some stand → (c : ℕ) × (slice_get after i ≡ Some c) × LiesOn cells (length m) stand c
  cell_of i stand e =
      let c = some_at after i (rw (← lie.count) (slice_get_within stands i stand e)) in
      (c.0, c.1, lie.each i c.0 stand e c.1)

  stand_at : (i c : ℕ) → slice_get after i ≡ Some c → (stand : Stand) × (slice_get stands i ≡ Some stand) × LiesOn cells (length m) stand c
  stand_at i c e =
      let stand = some_at stands i (rw lie.count (slice_get_within after i c e)) in
      (stand.0, stand.1, lie.each i c stand.0 stand.1 e)

  left_within : (n c : ℕ) → slice_get cells n ≡ Some c → c < length m
  left_within n c e = let a = typed_node r.left m cells at n c e in type_within m c a.0 a.2

  in_before : (n c : ℕ) → slice_get cells n ≡ Some c → slice_get (cells_before cells stands after) n ≡ Some c
  in_before n c e = slice_get-append_left cells (outside_cells stands after) n (slice_get_within cells n c e) ∙ e

  -- a node on a cell of before has a place there
  place_on : (i c : ℕ) (stand : Stand) → slice_get stands i ≡ Some stand → slice_get after i ≡ Some c → c < length m → LiesOn cells (length m) stand c → (p : ℕ) × (place_of r stands i ≡ Some p) × (slice_get (cells_before cells stands after) p ≡ Some c)
  unfolding place_of
  place_on i c (Left n) e f within on = (n, place_from-left (length r.left) stands i n e, in_before n c on)
  place_on i c (Made k) e f within on = absurd (omega arith)
  place_on i c Outside e f within on =
      let j = place_from-outside (length r.left) stands after i c e f in
      (length r.left + j.0, j.1, slice_get-append_right cells (outside_cells stands after) j.0 (length r.left + j.0) (ap (λ (k : ℕ). k + j.0) at.count) ∙ j.2)

  placed : (j d : ℕ) → slice_get after j ≡ Some d → d < length m → (p : ℕ) × (place_of r stands j ≡ Some p) × (slice_get (cells_before cells stands after) p ≡ Some d)
  placed j d e within = let stand = stand_at j d e in place_on j d stand.0 stand.1 e within stand.2

  different_before : AllDifferent (cells_before cells stands after)
  different_before = AllDifferent-outside cells (length m) stands after at.different later.different lie

  -- a cell of before that lives afterwards
  was_alive : (i c : ℕ) → slice_get after i ≡ Some c → c < length m → (a : ℕ) × (agent_at v i ≡ Some a) × (type_in m c ≡ Some a) × (fate_on r cells c ≢ Some Deleted)
  was_alive i c e within =
      let a = typed_node v (fire r cells m) after later i c e in
      let old = type_in-fire_old r cells m c a.0 within a.2 in
      (a.0, a.1, old.0, old.1)

  alive_before : (n c : ℕ) → slice_get (cells_before cells stands after) n ≡ Some c → (a : ℕ) × (type_in m c ≡ Some a)
  alive_before n c e =
      elim (in_append cells (outside_cells stands after) n c e) [
        | inl left ↦ let a = typed_node r.left m cells at n c left in (a.0, a.2)
        | inr out ↦
            let i = outside_cells-node zero stands after out.0 c out.2 in
            let a = was_alive i.0 c i.2 (lie.each i.0 c Outside i.1 i.2).0 in
            (a.0, a.2)
      ]

  -- ---- the stands fit

  fits : (i c a : ℕ) (stand : Stand) → slice_get after i ≡ Some c → agent_at v i ≡ Some a → LiesOn cells (length m) stand c → FitsStand r stand a
  fits i c a (Left n) e is on =
      let within = left_within n c on in
      let old = type_in-fire_old r cells m c a within (later.types i c a e is) in
      let left = typed_node r.left m cells at n c on in
      let same : Some left.0 ≡ Some a = sym left.2 ∙ old.0 in
      let inside : n < length r.actions = rw (rule.is_rule.actions, ← at.count) (slice_get_within cells n c on) in
      let stays = rw (node_on-at cells c n at.different on) at old.1 in
      (fate_kept r n inside stays, left.1 ∙ same)
  fits i c a (Made k) e is on = sym (type_in-fire_new r cells m k c on) ∙ later.types i c a e is
  fits i c a Outside e is on = tt

  same_cell : (c d : ℕ) (stand : Stand) → stand ≢ Outside → LiesOn cells (length m) stand c → LiesOn cells (length m) stand d → c ≡ d
  same_cell c d (Left n) ne p q = cc
  same_cell c d (Made k) ne p q = sym p ∙ q
  same_cell c d Outside ne p q = absurd (ne refl)

  AreStands-cut : AreStands r v stands
  AreStands-cut = record {
    count = lie.count ∙ later.count;
    fit = λ i a stand e is. let c = cell_of i stand e in fits i c.0 a stand c.1 is c.2;
    different = λ i j stand ne e f.
        let c = cell_of i stand e in
        let d = cell_of j stand f in
        later.different i j d.0 (c.1 ∙ ap Some (same_cell c.0 d.0 stand ne c.2 d.2)) d.1;
  }

  -- ---- the left pattern

  types_before : types_of (cut m (cells_before cells stands after)) ≡ types_of r.left ++ outside_types v stands
  unfolding cut
  types_before =
      types_of-cut m (cells_before cells stands after) cells (outside_cells stands after)
      ∙ ap (λ (ts : List ℕ). ts ++ map (λ c. (cut_node m (cells_before cells stands after) c).agent) (outside_cells stands after)) lefts
      ∙ ap (λ (ts : List ℕ). types_of r.left ++ ts) outsides
    where
      lefts : map (λ c. (cut_node m (cells_before cells stands after) c).agent) cells ≡ types_of r.left
      lefts = types-left r cells m at (cells_before cells stands after)

      outsides : map (λ c. (cut_node m (cells_before cells stands after) c).agent) (outside_cells stands after) ≡ outside_types v stands
      outsides = outside_types-cells (λ c. (cut_node m (cells_before cells stands after) c).agent) v stands after lie.count later.count (λ i c node e f g.
          let within = (lie.each i c Outside e f).0 in
          let old = type_in-fire_old r cells m c node.agent within (later.types i c node.agent f (agent_at-node v i node g)) in
          cut_node_type m (cells_before cells stands after) c node.agent old.0)

  left_states : (n s : ℕ) → StateImplies (state_test (cut m (cells_before cells stands after)) n s) (state_test r.left n s)
  left_states = left_states-cut sig r cells m over rule at (cells_before cells stands after) different_before alive_before in_before

  left_links : (n s : ℕ) → LinkImplies (cut m (cells_before cells stands after)) (link_test (cut m (cells_before cells stands after)) n s) (link_test r.left n s)
  left_links = left_links-cut sig r cells m over rule at (cells_before cells stands after) different_before alive_before in_before

  -- ---- the tests of v

  -- v's site exists in its cell, after the firing and, in a cell of before, before it
  site_before : (i c s : ℕ) → slice_get after i ≡ Some c → c < length m → HasTest v i s → (y : AgentSite) × (site_in m c s ≡ Some y)
  site_before i c s e within x =
      site_of_node sig m over v shaped i c s x.0 x.1 (λ a is. (type_in-fire_old r cells m c a within (later.types i c a e is)).0)

  any_state : (i : ℕ) (s : ℕ) (stand : Stand) → slice_get stands i ≡ Some stand → StateBefore r (cut m (cells_before cells stands after)) (place_of r stands i) stand s state.Any
  any_state i s (Left n) e = by_written (written_state r n s)
    where
      by_written : (w : Option ℕ) → MatchOption w (StateImplies (state_test (cut m (cells_before cells stands after)) n s) state.Any) (λ u. MeetsState (Some u) state.Any)
      by_written None = tt
      by_written (Some u) = tt
  any_state i s (Made k) e = tt
  any_state i s Outside e =
      let c = cell_of i Outside e in
      let p = placed i c.0 c.1 c.2.0 in
      (p.0, p.1, tt)

  state_before : (i c s : ℕ) (stand : Stand) → slice_get stands i ≡ Some stand → slice_get after i ≡ Some c → LiesOn cells (length m) stand c → HasTest v i s → StateBefore r (cut m (cells_before cells stands after)) (place_of r stands i) stand s (state_test v i s)
  unfolding state_in
  state_before i c s (Left n) e f on x =
      let within = left_within n c on in
      let y = site_before i c s f within x in
      let alive = was_alive i c f within in
      let met = rw (state_in-fire_old r cells m c s y.0 within alive.3 y.1, node_on-at cells c n at.different on) at (later.states i c s f) in
      by_written (written_state r n s) y.0 y.1 met
    where
      by_written : (w : Option ℕ) (y : AgentSite) → site_in m c s ≡ Some y → MeetsState (state_after w y.state) (state_test v i s) → MatchOption w (StateImplies (state_test (cut m (cells_before cells stands after)) n s) (state_test v i s)) (λ u. MeetsState (Some u) (state_test v i s))
      by_written (Some u) y is met = met
      by_written None y is met = StateImplies-cut sig m over (cells_before cells stands after) different_before alive_before n c s (state_test v i s) (in_before n c on) (rw is met)
  state_before i c s (Made k) e f on x = rw (state_in-fire_new r cells m k c s on) at (later.states i c s f)
  state_before i c s Outside e f on x =
      let y = site_before i c s f on.0 x in
      let alive = was_alive i c f on.0 in
      let p = place_on i c Outside e f on.0 on in
      let met = rw (state_in-fire_old r cells m c s y.0 on.0 alive.3 y.1, no_node_on cells c on.1) at (later.states i c s f) in
      (p.0, p.1, StateImplies-cut sig m over (cells_before cells stands after) different_before alive_before p.0 c s (state_test v i s) p.2 (rw y.1 met))

  states_before : (i s : ℕ) (stand : Stand) → slice_get stands i ≡ Some stand → StateBefore r (cut m (cells_before cells stands after)) (place_of r stands i) stand s (state_test v i s)
  states_before i s stand e =
      elim (site_or_any v i s) [
        | inl x ↦ let c = cell_of i stand e in state_before i c.0 s stand e c.1 c.2 x
        | inr none ↦ rw none.0 (any_state i s stand e)
      ]

  -- ---- what is written meets v's link test

  stand_of_end : (e : End) (d : ℕ) (stand : Stand) → end_cell cells (length m) e ≡ Some d → LiesOn cells (length m) stand d → stand ≡ stand_of e
  stand_of_end («end».Left n) d (Left k) on lies = ap Left (at.different k n d lies on)
  stand_of_end («end».Left n) d (Made k) on lies = let h = left_within n d on in absurd (omega arith)
  stand_of_end («end».Left n) d Outside on lies = absurd (lies.1 (n, on))
  stand_of_end («end».Made n) d (Left k) on lies = let e : length m + n ≡ d = cc in let h = left_within k d lies in absurd (omega arith)
  stand_of_end («end».Made n) d (Made k) on lies = let e : length m + n ≡ d = cc in ap Made (omega arith)
  stand_of_end («end».Made n) d Outside on lies = let e : length m + n ≡ d = cc in let h = lies.0 in absurd (omega arith)

  end_exists : (e : End) (s : ℕ) (w : Written) → end_link r e s ≡ Some w → (d : ℕ) × (end_cell cells (length m) e ≡ Some d)
  unfolding written_link action_at
  end_exists («end».Left n) s w is =
      let action = some_then (λ (a : SiteAction). a.link) (option_and_then (λ (a : NodeAction). slice_get a.sites s) (slice_get r.actions n)) w is in
      let node = some_then (λ (a : NodeAction). slice_get a.sites s) (slice_get r.actions n) action.0 action.1 in
      some_at cells n (rw (at.count, ← rule.is_rule.actions) (slice_get_within r.actions n node.0 node.1))
  end_exists («end».Made k) s w is = (length m + k, refl)

  written_bond : (e : End) (t d : ℕ) (b : LinkTest) → end_cell cells (length m) e ≡ Some d → MeetsLink (fire r cells m) after (Some (d, t)) b → WrittenMeets r stands (To e t) b
  written_bond e t d test.Any on met = tt
  written_bond e t d test.Free on met = absurd cc
  written_bond e t d test.Bound on met = tt
  written_bond e t d (test.Partner b z) on met =
      let same = some_pair_parts d met.0 t z met.1 in
      (type_of_end r cells m at e met.0 b (on ∙ ap Some same.0) met.2, same.1)
  written_bond e t d (test.To i z) on met =
      let same = some_pair_parts d met.0 t z met.1 in
      let stand = stand_at i met.0 met.2 in
      (stand.1 ∙ ap Some (stand_of_end e met.0 stand.0 (on ∙ ap Some same.0) stand.2), same.1)

  free_meets : (b : LinkTest) → MeetsLink (fire r cells m) after None b → WrittenMeets r stands Free b
  free_meets test.Any met = tt
  free_meets test.Free met = tt
  free_meets test.Bound met = absurd (let f = met.2 in cc)
  free_meets (test.Partner b z) met = absurd (let f = met.1 in cc)
  free_meets (test.To i z) met = absurd (let f = met.1 in cc)

  written_meets : (e : End) (s : ℕ) (w : Written) (b : LinkTest) → end_link r e s ≡ Some w → MeetsLink (fire r cells m) after (target cells (length m) w) b → WrittenMeets r stands w b
  written_meets e s Free b is met = free_meets b met
  written_meets e s (To f t) b is met =
      let d = end_exists f t (To e s) (rule.is_rule.both_ways e f s t is) in
      written_bond f t d.0 b d.1 (rw d.1 at met)

  -- ---- links that aren't written

  -- a partner of before meets the same tests before and after
  met_before : (o : Option (ℕ × ℕ)) (b : LinkTest) → ((d t : ℕ) → o ≡ Some (d, t) → d < length m) → MeetsLink (fire r cells m) after o b → MeetsLink m after o b
  met_before o test.Any within met = tt
  met_before o test.Free within met = met
  met_before o test.Bound within met = met
  met_before o (test.Partner b z) within met = (met.0, met.1, (type_in-fire_old r cells m met.0 b (within met.0 z met.1) met.2).0)
  met_before o (test.To j z) within met = met

  -- the side effect freed no site but those named
  module _ (freed : List FreedBy) (just : AreJustFreed r cells m v after freed) where
    -- a free test met after a touched partner is named
    freed_named : (i c s d t : ℕ) → slice_get after i ≡ Some c → partner_in m c s ≡ Some (d, t) → link_on r cells c s ≡ None → touched_on r cells d t ≡ true → link_test v i s ≡ test.Free → IsFreed freed i s
    freed_named i c s d t e bound none gone free =
        let n = left_touched r cells d t gone in
        let f : FreedBy = record { node = i; site = s; from = n.0; «at» = t } in
        let has = (just.just f).1 (record { test = free; cell = c; lies = e; source = d; source_lies = n.1; was = bound; unwritten = none; source_touched = n.2 }) in
        (f, has, refl, refl)

    kept_before : (p i c s : ℕ) (y : AgentSite) → slice_get (cells_before cells stands after) p ≡ Some c → slice_get after i ≡ Some c → site_in m c s ≡ Some y → link_on r cells c s ≡ None → ¬ IsFreed freed i s → MeetsLink (fire r cells m) after (kept_partner r cells y.partner) (link_test v i s) → ImpliesAt (cut m (cells_before cells stands after)) (place_of r stands) (link_test (cut m (cells_before cells stands after)) p s) (link_test v i s)
    unfolding partner_in
    kept_before p i c s y lies e is none unfreed met = by_partner y.partner refl met
      where
        implied : (o : Option (ℕ × ℕ)) → y.partner ≡ o → MeetsLink m after o (link_test v i s) → ImpliesAt (cut m (cells_before cells stands after)) (place_of r stands) (link_test (cut m (cells_before cells stands after)) p s) (link_test v i s)
        implied o was kept = ImpliesAt-cut sig m over (cells_before cells stands after) different_before alive_before after (place_of r stands) placed p c s y (link_test v i s) lies is (rw (is, was) kept)

        by_test : (d t : ℕ) → partner_in m c s ≡ Some (d, t) → touched_on r cells d t ≡ true → (b : LinkTest) → link_test v i s ≡ b → MeetsLink (fire r cells m) after None b → ImpliesAt (cut m (cells_before cells stands after)) (place_of r stands) (link_test (cut m (cells_before cells stands after)) p s) b
        by_test d t bound gone test.Any f met' = tt
        by_test d t bound gone test.Free f met' = absurd (unfreed (freed_named i c s d t e bound none gone f))
        by_test d t bound gone test.Bound f met' = absurd (let g = met'.2 in cc)
        by_test d t bound gone (test.Partner b z) f met' = absurd (let g = met'.1 in cc)
        by_test d t bound gone (test.To j z) f met' = absurd (let g = met'.1 in cc)

        by_touched : (d t : ℕ) → y.partner ≡ Some (d, t) → (b : Bool) → touched_on r cells d t ≡ b → MeetsLink (fire r cells m) after (unless b (d, t)) (link_test v i s) → ImpliesAt (cut m (cells_before cells stands after)) (place_of r stands) (link_test (cut m (cells_before cells stands after)) p s) (link_test v i s)
        by_touched d t was true f met' = by_test d t (rw is was) f (link_test v i s) refl met'
        by_touched d t was false f met' =
            let bound : partner_in m c s ≡ Some (d, t) = rw is was in
            let back = over.linked.both_ways c s d t bound in
            let within = partner_within m d t c s back in
            implied (Some (d, t)) was (met_before (Some (d, t)) (link_test v i s) (λ d' t' g. let same = some_pair_parts d d' t t' g in rw (← same.0) within) met')

        by_partner : (o : Option (ℕ × ℕ)) → y.partner ≡ o → MeetsLink (fire r cells m) after (kept_partner r cells o) (link_test v i s) → ImpliesAt (cut m (cells_before cells stands after)) (place_of r stands) (link_test (cut m (cells_before cells stands after)) p s) (link_test v i s)
        by_partner None was met' = implied None was (met_before None (link_test v i s) (λ d t g. absurd cc) met')
        by_partner (Some q) was met' = by_touched q.0 q.1 was (touched_on r cells q.0 q.1) refl met'

    any_link : (i : ℕ) (s : ℕ) (stand : Stand) → slice_get stands i ≡ Some stand → LinkBefore r (cut m (cells_before cells stands after)) stands (place_of r stands i) stand s test.Any
    any_link i s (Left n) e = by_written (written_link r n s)
      where
        by_written : (w : Option Written) → MatchOption w (ImpliesAt (cut m (cells_before cells stands after)) (place_of r stands) (link_test (cut m (cells_before cells stands after)) n s) test.Any) (λ u. WrittenMeets r stands u test.Any)
        by_written None = tt
        by_written (Some Free) = tt
        by_written (Some (To f t)) = tt
    any_link i s (Made k) e = by_written (made_link r k s)
      where
        by_written : (w : Written) → WrittenMeets r stands w test.Any
        by_written Free = tt
        by_written (To f t) = tt
    any_link i s Outside e =
        let c = cell_of i Outside e in
        let p = placed i c.0 c.1 c.2.0 in
        (p.0, p.1, tt)

    link_before : (i c s : ℕ) (stand : Stand) → slice_get stands i ≡ Some stand → slice_get after i ≡ Some c → LiesOn cells (length m) stand c → HasTest v i s → ¬ IsFreed freed i s → LinkBefore r (cut m (cells_before cells stands after)) stands (place_of r stands i) stand s (link_test v i s)
    link_before i c s (Left n) e f on x unfreed =
        let within = left_within n c on in
        let y = site_before i c s f within x in
        let alive = was_alive i c f within in
        let here = node_on-at cells c n at.different on in
        let met = rw (partner_in-fire_kept r cells m c s y.0 within alive.3 y.1, here) at (later.links i c s f) in
        by_written (written_link r n s) refl y.0 y.1 (rw here refl) met
      where
        by_written : (w : Option Written) → written_link r n s ≡ w → (y : AgentSite) → site_in m c s ≡ Some y → link_on r cells c s ≡ written_link r n s → MeetsLink (fire r cells m) after (partner_after r cells (length m) w y.partner) (link_test v i s) → MatchOption w (ImpliesAt (cut m (cells_before cells stands after)) (place_of r stands) (link_test (cut m (cells_before cells stands after)) n s) (link_test v i s)) (λ u. WrittenMeets r stands u (link_test v i s))
        by_written (Some w) g y is same met = written_meets («end».Left n) s w (link_test v i s) g met
        by_written None g y is same met = kept_before n i c s y (in_before n c on) f is (same ∙ g) unfreed met
    link_before i c s (Made k) e f on x unfreed =
        made_meets (made_link r k s) refl (rw (partner_in-fire_made r cells m k c s on) at (later.links i c s f))
      where
        made_meets : (w : Written) → made_link r k s ≡ w → MeetsLink (fire r cells m) after (target cells (length m) w) (link_test v i s) → WrittenMeets r stands w (link_test v i s)
        made_meets Free is met = free_meets (link_test v i s) met
        made_meets (To g t) is met = written_meets («end».Made k) s (To g t) (link_test v i s) (made_end r k s g t is) met
    link_before i c s Outside e f on x unfreed =
        let y = site_before i c s f on.0 x in
        let alive = was_alive i c f on.0 in
        let p = place_on i c Outside e f on.0 on in
        let none = no_node_on cells c on.1 in
        let met = rw (partner_in-fire_kept r cells m c s y.0 on.0 alive.3 y.1, none) at (later.links i c s f) in
        (p.0, p.1, kept_before p.0 i c s y.0 p.2 f y.1 (rw none refl) unfreed met)

    links_before : (i s : ℕ) (stand : Stand) → slice_get stands i ≡ Some stand → ¬ IsFreed freed i s → LinkBefore r (cut m (cells_before cells stands after)) stands (place_of r stands i) stand s (link_test v i s)
    links_before i s stand e unfreed =
        elim (site_or_any v i s) [
          | inl x ↦ let c = cell_of i stand e in link_before i c.0 s stand e c.1 c.2 x unfreed
          | inr none ↦ rw none.1 (any_link i s stand e)
        ]

    sources_before : (f : FreedBy) → Has freed f → (p : ℕ) → place_of r stands f.node ≡ Some p → link_test (cut m (cells_before cells stands after)) p f.site ≡ test.To f.from f.«at»
    sources_before f has p e =
        let was = (just.just f).0 has in
        let within = partner_within m was.cell f.site was.source f.«at» was.was in
        let q = placed f.node was.cell was.lies within in
        let same : Some q.0 ≡ Some p = sym q.1 ∙ e in
        let place : q.0 ≡ p = cc in
        rw (← place) (bond_in_cut m (cells_before cells stands after) different_before q.0 was.cell f.site was.source f.«at» f.from q.2 was.was (in_before f.from was.source was.source_lies))

    -- the tests named are ones that the rule doesn't write
    pub AreFreed-just : AreFreed r v stands freed
    AreFreed-just = record {
      free = λ f has. ((just.just f).0 has).test;
      unwritten = λ f has.
          let was = (just.just f).0 has in
          let stand = stand_at f.node was.cell was.lies in
          (stand.0, stand.1, by_stand f.site was.cell stand.0 stand.2 (partner_within m was.cell f.site was.source f.«at» was.was) was.unwritten);
      by_touched = λ f has. ((just.just f).0 has).source_touched;
    }
      where
        by_stand : (s c : ℕ) (stand : Stand) → LiesOn cells (length m) stand c → c < length m → link_on r cells c s ≡ None → link_written r stand s ≡ None
        by_stand s c (Left n) on within none = rw (node_on-at cells c n at.different on) at none
        by_stand s c (Made k) on within none = absurd (omega arith)
        by_stand s c Outside on within none = refl

    -- the cut can have stood before the firing
    pub IsBefore-cut : IsBefore sig r v stands freed (cut m (cells_before cells stands after))
    IsBefore-cut = record {
      stand = AreStands-cut;
      valid = IsPatternOver-cut sig m over (cells_before cells stands after) different_before alive_before;
      types = types_before;
      left_states = left_states;
      left_links = left_links;
      states = states_before;
      links = links_before;
      sources = sources_before;
    }

  -- it stood there
  pub IsEmbedding-before : IsEmbedding (cut m (cells_before cells stands after)) m (cells_before cells stands after)
  IsEmbedding-before = IsEmbedding-cut m (cells_before cells stands after) different_before alive_before
