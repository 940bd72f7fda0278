-- The places of nodes before a firing, and which sites and tests exist there.
use Rattle.std.proofs.Common.{◌≡◌, ℕ, zero, suc, ◌+◌, List, [], ◌∷◌, ◌++◌, refl, sym, ap, ◌∙◌, length, arith}
use Rattle.std.specs.Prelude.{Option, Some, None, IsSome, slice_get, option_map}
use Rattle.std.specs.Option.{option_map_or}
use Rattle.std.proofs.lemmas.List.{length-map}
use Rattle.std.proofs.lemmas.Option.{slice_get_within, same_Some}
use Rattle.kasa_graph.specs.declared.pattern.StateTest.{StateTest}
use Rattle.kasa_graph.specs.declared.pattern.StateTest.TheVariants as state
use Rattle.kasa_graph.specs.declared.pattern.LinkTest.{LinkTest}
use Rattle.kasa_graph.specs.declared.pattern.LinkTest.TheVariants.{Any, Free, Bound, Partner, To}
use Rattle.kasa_graph.specs.declared.pattern.SiteTests.{SiteTests}
use Rattle.kasa_graph.specs.declared.pattern.Node.{Node}
use Rattle.kasa_graph.specs.declared.refine.Test.TheVariants.{State, Link}
use Rattle.kasa_graph.specs.Signature.{TypeEntry, state_counts, HasSite}
use Rattle.kasa_graph.specs.Pattern.{agent_at, site_at, state_test, link_test, types_of, HasNodeSite, LinkImplies}
use Rattle.kasa_graph.proofs.ListLemmas.{some_at, some_map, slice_get-append_left, slice_get-append_right}
use Rattle.kasa_graph.proofs.TestLemmas.{agent_at-types, length-types}
use Rattle.kasa_graph.proofs.SiteLemmas.{HasNodeSite-over, HasSite-over, type_of_node_site}
use Rattle.kasa_graph.proofs.MeetLemmas.{LinkImplies-refl}
use Rattle.kasa_rules.specs.declared.rule.MadeSite.{MadeSite}
use Rattle.kasa_rules.specs.declared.rule.MadeAgent.{MadeAgent}
use Rattle.kasa_rules.specs.Rule.{RuleParts, IsRuleOver, made_type, made_site}
use Rattle.kasa_pre.specs.declared.Stand.{Stand}
use Rattle.kasa_pre.specs.declared.Stand.TheVariants.{Left, Made, Outside}
use Rattle.kasa_pre.specs.Place.{ImpliesAt}
use Rattle.kasa_pre.specs.Before.{place_from, place_of, outside_types}
use Rattle.kasa_pre.specs.Narrow.{IsKnownTest}
use Rattle.kasa_pre.specs.Asked.{IsAsked, HasNodes, HasStandSite, link_at}
use Rattle.kasa_pre.proofs.Implied.{To-implied}
use Rattle.kasa_pre.proofs.PlaceLemmas.{place_from-left, place_from-made}
use Rattle.kasa_graph.proofs.ShapeLemmas.{node_of_agent}

-- ---- places

pub place_of-left : (r : RuleParts) (stands : List Stand) (i n : ℕ) → slice_get stands i ≡ Some (Left n) → place_of r stands i ≡ Some n
unfolding place_of
place_of-left r stands i n e = place_from-left (length r.left) stands i n e

pub place_of-made : (r : RuleParts) (stands : List Stand) (i n : ℕ) → slice_get stands i ≡ Some (Made n) → place_of r stands i ≡ None
unfolding place_of
place_of-made r stands i n e = place_from-made (length r.left) stands i n e

pub place_of-past : (r : RuleParts) (stands : List Stand) (i : ℕ) → slice_get stands i ≡ None → place_of r stands i ≡ None
unfolding place_of
place_of-past r stands i e = past (length r.left) stands i e
  where
    past : (k : ℕ) (stands : List Stand) (i : ℕ) → slice_get stands i ≡ None → place_from k stands i ≡ None
    past k [] i e = refl
    past k (Left n ∷ stands) zero e = absurd cc
    past k (Made n ∷ stands) zero e = absurd cc
    past k (Outside ∷ stands) zero e = absurd cc
    past k (Left n ∷ stands) (suc i) e = past k stands i e
    past k (Made n ∷ stands) (suc i) e = past k stands i e
    past k (Outside ∷ stands) (suc i) e = past (suc k) stands i e

-- a node outside has a place, with its type
outside_place : (k : ℕ) (v : List Node) (stands : List Stand) (i : ℕ) (node : Node) → slice_get stands i ≡ Some Outside → slice_get v i ≡ Some node → (j : ℕ) × (place_from k stands i ≡ Some (k + j)) × (slice_get (outside_types v stands) j ≡ Some node.agent)
outside_place k v [] i node e f = absurd cc
outside_place k [] (stand ∷ stands) i node e f = absurd cc
outside_place k (x ∷ v) (Left n ∷ stands) zero node e f = absurd cc
outside_place k (x ∷ v) (Made n ∷ stands) zero node e f = absurd cc
outside_place k (x ∷ v) (Outside ∷ stands) zero node e f = let same : x ≡ node = cc in (zero, ap Some (omega arith), rw same refl)
outside_place k (x ∷ v) (Left n ∷ stands) (suc i) node e f = outside_place k v stands i node e f
outside_place k (x ∷ v) (Made n ∷ stands) (suc i) node e f = outside_place k v stands i node e f
outside_place k (x ∷ v) (Outside ∷ stands) (suc i) node e f =
    let j = outside_place (suc k) v stands i node e f in
    (suc j.0, j.1 ∙ ap Some (omega arith), j.2)

-- a created agent has the sites of its type
pub made_site_exists : (sig : List TypeEntry) (r : RuleParts) → IsRuleOver sig r → (k a s : ℕ) → made_type r k ≡ Some a → HasSite sig a s → IsSome (made_site r k s)
unfolding made_type made_site
made_site_exists sig r over k a s typed has =
    let x = some_map (λ (x : MadeAgent). x.agent) (slice_get r.made k) a typed in
    let count : length x.0.sites ≡ length (state_counts sig a) = sym (length-map x.0.sites (λ (y : MadeSite). y.states)) ∙ ap length (over.made_sites k x.0 x.1) ∙ ap (λ (b : ℕ). length (state_counts sig b)) x.2 in
    let site = some_at x.0.sites s (rw count has) in
    rw (x.1, site.1) refl

module _ (sig : List TypeEntry) (r : RuleParts) (v : List Node) (stands : List Stand) (places : List (Option ℕ)) (asked : IsAsked sig r v stands places) where
  pub place_of-outside : (i a : ℕ) → slice_get stands i ≡ Some Outside → agent_at v i ≡ Some a → (j : ℕ) × (place_of r stands i ≡ Some (length r.left + j)) × (slice_get (outside_types v stands) j ≡ Some a)
  unfolding place_of
  place_of-outside i a e typed =
      let node = node_of_agent v i a typed in
      let j = outside_place (length r.left) v stands i node.0 e node.1 in
      (j.0, j.1, j.2 ∙ ap Some node.2)

  pub stand_of_node : (i a : ℕ) → agent_at v i ≡ Some a → (stand : Stand) × (slice_get stands i ≡ Some stand)
  stand_of_node i a typed =
      let node = node_of_agent v i a typed in
      some_at stands i (rw asked.stand.count (slice_get_within v i node.0 node.1))

  -- a node has its type at its place
  module _ (g : List Node) (nodes : HasNodes sig r v stands g) where
    typed_at : (p a : ℕ) → slice_get (types_of r.left ++ outside_types v stands) p ≡ Some a → agent_at g p ≡ Some a
    typed_at p a e = agent_at-types g p ∙ ap (λ (ts : List ℕ). slice_get ts p) nodes.types ∙ e

    left_typed : (n a : ℕ) → agent_at r.left n ≡ Some a → agent_at g n ≡ Some a
    left_typed n a e =
        let there : slice_get (types_of r.left) n ≡ Some a = sym (agent_at-types r.left n) ∙ e in
        typed_at n a (slice_get-append_left (types_of r.left) (outside_types v stands) n (slice_get_within (types_of r.left) n a there) ∙ there)

    pub place_typed : (i p a : ℕ) → place_of r stands i ≡ Some p → agent_at v i ≡ Some a → agent_at g p ≡ Some a
    place_typed i p a at typed = let stand = stand_of_node i a typed in by stand.0 stand.1
      where
        by : (stand : Stand) → slice_get stands i ≡ Some stand → agent_at g p ≡ Some a
        by (Left n) e =
            let same : n ≡ p = same_Some n p (sym (place_of-left r stands i n e) ∙ at) in
            rw (← same) (left_typed n a (asked.stand.fit i a (Left n) e typed).1)
        by (Made k) e = absurd (let none = place_of-made r stands i k e in cc)
        by Outside e =
            let j = place_of-outside i a e typed in
            let same : length r.left + j.0 ≡ p = same_Some (length r.left + j.0) p (sym j.1 ∙ at) in
            typed_at p a (slice_get-append_right (types_of r.left) (outside_types v stands) j.0 p (let size = length-types r.left in omega arith) ∙ j.2)

    -- and its sites
    pub HasNodeSite-place : (i p s : ℕ) → place_of r stands i ≡ Some p → HasNodeSite v i s → HasNodeSite g p s
    HasNodeSite-place i p s at has =
        let a = type_of_node_site v i s has in
        HasNodeSite-over sig g nodes.valid p a.0 s (place_typed i p a.0 at a.1) (HasSite-over sig v asked.over i a.0 s a.1 has)

    -- a state test of v is known there
    pub known_state : (i p s : ℕ) (t : StateTest) → t ≡ state_test v i s → place_of r stands i ≡ Some p → HasNodeSite v i s → IsKnownTest sig g p s (State t)
    known_state i p s state.Any e at has = tt
    known_state i p s (state.Is u) e at has = λ b typed.
        let a = type_of_node_site v i s has in
        let same : a.0 ≡ b = same_Some a.0 b (sym (place_typed i p a.0 at a.1) ∙ typed) in
        rw (← same) (asked.over.states i s u a.0 a.1 (sym e))

    site_of_bond : (h : List Node) (n s m t : ℕ) → link_test h n s ≡ To m t → HasNodeSite h n s
    unfolding link_test
    site_of_bond h n s m t e = by (site_at h n s) e
      where
        by : (o : Option SiteTests) → option_map_or (λ (x : SiteTests). x.link) o Any ≡ To m t → IsSome o
        by None bond = absurd cc
        by (Some x) bond = refl

    -- a link test of v, read at places
    pub known_link : (i p s : ℕ) (t test : LinkTest) → t ≡ link_test v i s → link_at (place_of r stands) t ≡ Some test → IsKnownTest sig g p s (Link test)
    known_link i p s Any test e is = let same : Any ≡ test = cc in rw (← same) tt
    known_link i p s Free test e is = let same : Free ≡ test = cc in rw (← same) tt
    known_link i p s Bound test e is = let same : Bound ≡ test = cc in rw (← same) tt
    known_link i p s (Partner b y) test e is = let same : Partner b y ≡ test = cc in rw (← same) (asked.over.partners i s b y (sym e))
    known_link i p s (To j z) test e is =
        let q = some_map (λ (p : ℕ). To p z) (place_of r stands j) test is in
        let back = asked.over.linked.both_ways i s j z (sym e) in
        rw (← q.2) (HasNodeSite-place j q.0 z q.1 (site_of_bond v j z i s back))

  -- the site of a stand exists
  pub HasStandSite-asked : (i s : ℕ) (stand : Stand) → slice_get stands i ≡ Some stand → HasNodeSite v i s → HasStandSite r stand s
  HasStandSite-asked i s (Left n) e has =
      let a = type_of_node_site v i s has in
      HasNodeSite-over sig r.left asked.rule.left n a.0 s (asked.stand.fit i a.0 (Left n) e a.1).1 (HasSite-over sig v asked.over i a.0 s a.1 has)
  HasStandSite-asked i s (Made k) e has =
      let a = type_of_node_site v i s has in
      made_has_site k a.0 (asked.stand.fit i a.0 (Made k) e a.1) (HasSite-over sig v asked.over i a.0 s a.1 has)
    where
      made_has_site : (k a : ℕ) → made_type r k ≡ Some a → HasSite sig a s → IsSome (made_site r k s)
      made_has_site k a typed has = made_site_exists sig r asked.rule k a s typed has
  HasStandSite-asked i s Outside e has = tt

-- ---- a link test, read at places

module _ (place : ℕ → Option ℕ) (h : List Node) (a : LinkTest) where
  pub link_at-implied : (t test : LinkTest) → link_at place t ≡ Some test → ImpliesAt h place a t → LinkImplies h a test
  link_at-implied Any test e p = let same : Any ≡ test = cc in rw (← same) tt
  link_at-implied Free test e p = let same : Free ≡ test = cc in rw (← same) p
  link_at-implied Bound test e p = let same : Bound ≡ test = cc in rw (← same) p
  link_at-implied (Partner b y) test e p = let same : Partner b y ≡ test = cc in rw (← same) p
  link_at-implied (To j z) test e p =
      let q = some_map (λ (p : ℕ). To p z) (place j) test e in
      let same : q.0 ≡ p.0 = same_Some q.0 p.0 (sym q.1 ∙ p.1) in
      rw (← q.2, same, p.2) (LinkImplies-refl h (To p.0 z))

  pub implied-link_at : (t test : LinkTest) → link_at place t ≡ Some test → LinkImplies h a test → ImpliesAt h place a t
  implied-link_at Any test e p = tt
  implied-link_at Free test e p = let same : Free ≡ test = cc in rw same p
  implied-link_at Bound test e p = let same : Bound ≡ test = cc in rw same p
  implied-link_at (Partner b y) test e p = let same : Partner b y ≡ test = cc in rw same p
  implied-link_at (To j z) test e p =
      let q = some_map (λ (p : ℕ). To p z) (place j) test e in
      (q.0, q.1, To-implied h a q.0 z (rw q.2 p))

  pub link_at-none : (t : LinkTest) → link_at place t ≡ None → ¬ ImpliesAt h place a t
  link_at-none Any e p = absurd cc
  link_at-none Free e p = absurd cc
  link_at-none Bound e p = absurd cc
  link_at-none (Partner b y) e p = absurd cc
  link_at-none (To j z) e p = absurd (let some : option_map (λ (p : ℕ). To p z) (place j) ≡ Some (To p.0 z) = rw p.1 refl in cc)
