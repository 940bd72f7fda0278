-- Where some pattern can have stood before, there is a most general one.
use Rattle.std.proofs.Common.{◌≡◌, ◌≢◌, ℕ, zero, suc, ◌<◌, ◌⊎◌, inl, inr, List, [], ◌∷◌, ◌++◌, refl, sym, ap, ◌∙◌, length, map, arith, append_assoc, append-nil}
use Rattle.std.specs.Prelude.{true, Option, Some, None, slice_get, option_map}
use Rattle.std.proofs.lemmas.List.{length-map}
use Rattle.std.proofs.lemmas.Option.{slice_get-map, slice_get_within, same_Some}
use Rattle.kasa_graph.specs.declared.pattern.Node.{Node}
use Rattle.kasa_graph.specs.declared.pattern.LinkTest.{LinkTest}
use Rattle.kasa_graph.specs.declared.pattern.LinkTest.TheVariants.{Any, To}
use Rattle.kasa_graph.specs.declared.pattern.StateTest.TheVariants as state
use Rattle.kasa_graph.specs.declared.refine.Test.TheVariants.{State, Link}
use Rattle.kasa_graph.specs.Signature.{TypeEntry, state_counts}
use Rattle.kasa_graph.specs.Lists.{Has}
use Rattle.kasa_graph.specs.Pattern.{state_test, link_test, types_of, blank_node, HasNodeSite, IsPatternOver, Implies}
use Rattle.kasa_graph.proofs.ListLemmas.{same_or_not, some_at}
use Rattle.kasa_graph.proofs.MeetLemmas.{LinkImplies-refl}
use Rattle.kasa_rules.specs.declared.rule.Written.{Written}
use Rattle.kasa_rules.specs.Rule.{RuleParts, IsRuleOver, written_state}
use Rattle.kasa_pre.specs.declared.Stand.{Stand}
use Rattle.kasa_pre.specs.declared.Stand.TheVariants.{Left, Made, Outside}
use Rattle.kasa_pre.specs.declared.FreedBy.{FreedBy}
use Rattle.kasa_pre.specs.Before.{place_of, outside_types, link_written, IsFreed, StateBefore, LinkBefore, IsBefore, IsMostGeneralBefore}
use Rattle.kasa_pre.specs.Asked.{ArePlaces, IsAsked, HasNodes, SameTests, link_at, LinkAt, NodeBefore, NodesBefore, SourceBefore, SourcesBefore}
use Rattle.kasa_graph.proofs.ShapeLemmas.{agent_at-node, site_or_any}
use Rattle.kasa_pre.proofs.RowPlace.{places, length-places, places-at}
use Rattle.kasa_pre.proofs.OutsideLoops.{state_test-push_blank, types_of-push_blank}
use Rattle.kasa_graph.proofs.PatternLemmas.{link_test-push_blank}
use Rattle.kasa_graph.proofs.OverLemmas.{IsPatternOver-add_node}
use Rattle.kasa_pre.proofs.NarrowLemmas.{IsNarrowed-start}
use Rattle.kasa_pre.proofs.AskedLemmas.{place_of-left, HasNodeSite-place, known_state, known_link, link_at-implied, link_at-none}
use Rattle.kasa_pre.proofs.AskedSteps.{site_of_bond, site_shared, source-unplaced, source-there, link-there, link-unwritten, link-unfreed, unwritten_from, written_is, state-unwritten, state-outside}
use Rattle.kasa_pre.proofs.AskedLoops.{untested_state, untested_link, SourceBelow, NodeSiteBefore, sources-all, source-one, sites-all, site-one, nodes-all}
use Rattle.kasa_pre.proofs.MostGeneral.{Asks, Asks-before, Implies-before, IsMostGeneralBefore-narrowed}
use Rattle.kasa_pre.proofs.Found.{Found, Found-both, Found-below, Found-test}

-- a test is listed as freed, or not
pub is_freed_or : (freed : List FreedBy) (i s : ℕ) → IsFreed freed i s ⊎ (¬ IsFreed freed i s)
is_freed_or [] i s = inr (λ (f, (k, e), _, _). absurd cc)
is_freed_or (f ∷ freed) i s = by (same_or_not f.node i) (same_or_not f.site s) (is_freed_or freed i s)
  where
    by : (f.node ≡ i) ⊎ (f.node ≢ i) → (f.site ≡ s) ⊎ (f.site ≢ s) → IsFreed freed i s ⊎ (¬ IsFreed freed i s) → IsFreed (f ∷ freed) i s ⊎ (¬ IsFreed (f ∷ freed) i s)
    by (inl e) (inl e') rest = inl (f, (0, refl), e, e')
    by x y (inl (g, (k, is), e, e')) = inl (g, (suc k, is), e, e')
    by (inr ne) y (inr out) = inr none
      where
        none : ¬ IsFreed (f ∷ freed) i s
        none (g, (zero, is), e, e') = let same : f ≡ g = cc in ne (rw same e)
        none (g, (suc k, is), e, e') = out (g, (k, is), e, e')
    by (inl e) (inr ne) (inr out) = inr none
      where
        none : ¬ IsFreed (f ∷ freed) i s
        none (g, (zero, is), e, e') = let same : f ≡ g = cc in ne (rw same e')
        none (g, (suc k, is), e, e') = out (g, (k, is), e, e')

-- nodes of the types are appended
appended : (sig : List TypeEntry) (types : List ℕ) → ((k a : ℕ) → slice_get types k ≡ Some a → a < length sig) → (g : List Node) → IsPatternOver sig g → (new : List Node) × IsPatternOver sig new × (types_of new ≡ types_of g ++ types) × SameTests new g
appended sig [] known g over = (g, over, sym (append-nil (types_of g)), record { states = λ n s. refl; links = λ n s. refl })
appended sig (a ∷ types) known g over =
    let more = appended sig types (λ k b e. known (suc k) b e) (g ++ blank_node sig a ∷ []) (IsPatternOver-add_node sig a g over (known 0 a refl)) in (
      more.0,
      more.1,
      more.2 ∙ ap (λ (ts : List ℕ). ts ++ types) (types_of-push_blank sig a g) ∙ append_assoc (types_of g) (a ∷ []) types,
      record {
        states = λ n s. more.3.states n s ∙ state_test-push_blank sig a g n s;
        links = λ n s. more.3.links n s ∙ link_test-push_blank sig a g n s;
      },
    )

outside_known : (sig : List TypeEntry) (v : List Node) (stands : List Stand) → ((n : ℕ) (node : Node) → slice_get v n ≡ Some node → node.agent < length sig) → (k a : ℕ) → slice_get (outside_types v stands) k ≡ Some a → a < length sig
outside_known sig [] stands known k a e = absurd cc
outside_known sig (node ∷ v) [] known k a e = absurd cc
outside_known sig (node ∷ v) (Left n ∷ stands) known k a e = outside_known sig v stands (λ i x at. known (suc i) x at) k a e
outside_known sig (node ∷ v) (Made n ∷ stands) known k a e = outside_known sig v stands (λ i x at. known (suc i) x at) k a e
outside_known sig (node ∷ v) (Outside ∷ stands) known zero a e = let same : node.agent ≡ a = same_Some node.agent a e in rw (← same) (known 0 node refl)
outside_known sig (node ∷ v) (Outside ∷ stands) known (suc k) a e = outside_known sig v stands (λ i x at. known (suc i) x at) k a e

-- the list of all places
all_places : RuleParts → List Stand → List (Option ℕ)
all_places r stands = map (λ i. place_of r stands i) (places 0 (length stands))

ArePlaces-all : (r : RuleParts) (stands : List Stand) → ArePlaces r stands (all_places r stands)
unfolding all_places
ArePlaces-all r stands = (
  length-map (places 0 (length stands)) (λ i. place_of r stands i) ∙ length-places 0 (length stands),
  λ i within. slice_get-map (λ i. place_of r stands i) (places 0 (length stands)) i ∙ ap (option_map (λ (i : ℕ). place_of r stands i)) (places-at 0 (length stands) i within ∙ ap Some (omega arith)),
)

module _ (sig : List TypeEntry) (r : RuleParts) (v : List Node) (stands : List Stand) (freed : List FreedBy) (rule : IsRuleOver sig r) (over : IsPatternOver sig v) (h : List Node) (before : IsBefore sig r v stands freed h) where
  asked : IsAsked sig r v stands (all_places r stands)
  asked = record { rule = rule; over = over; stand = before.stand; placed = ArePlaces-all r stands }

  asks : Asks sig r v stands freed h
  asks = Asks-before sig r v stands freed h before

  module _ (g : List Node) (nodes : HasNodes sig r v stands g) (implied : Implies h g) where
    found_source : (f : FreedBy) → Has freed f → Found sig h before.valid g (SourceBefore r stands f)
    found_source f has = by (place_of r stands f.node) refl
      where
        by : (o : Option ℕ) → place_of r stands f.node ≡ o → Found sig h before.valid g (SourceBefore r stands f)
        by None at = (g, source-unplaced sig r v stands g nodes.valid f at)
        by (Some p) at =
            let bond = before.sources f has p at in
            let here = site_shared sig g h nodes.valid before.valid implied p f.site (site_of_bond h p f.site f.from f.«at» bond) in
            let there = site_shared sig g h nodes.valid before.valid implied f.from f.«at» (site_of_bond h f.from f.«at» p f.site (before.valid.linked.both_ways p f.site f.from f.«at» bond)) in
            let found = Found-test sig h before.valid g nodes.valid implied p f.site here (Link (To f.from f.«at»)) there (rw bond (LinkImplies-refl h (To f.from f.«at»))) in
            (found.0, source-there sig r v stands g nodes.valid f p true found.0 at found.1)

    module _ (i s : ℕ) (stand : Stand) (at : slice_get stands i ≡ Some stand) (has : HasNodeSite v i s) where
      found_state : Found sig h before.valid g (λ k. StateBefore r k (place_of r stands i) stand s (state_test v i s))
      found_state = by stand at (before.states i s stand at)
        where
          by : (stand : Stand) → slice_get stands i ≡ Some stand → StateBefore r h (place_of r stands i) stand s (state_test v i s) → Found sig h before.valid g (λ k. StateBefore r k (place_of r stands i) stand s (state_test v i s))
          by (Made k) at x = (g, IsNarrowed-start sig g _ nodes.valid (λ k. x))
          by Outside at (p, at_p, x) =
              let here = HasNodeSite-place sig r v stands (all_places r stands) asked g nodes i p s at_p has in
              let found = Found-test sig h before.valid g nodes.valid implied p s here (State (state_test v i s)) (known_state sig r v stands (all_places r stands) asked g nodes i p s (state_test v i s) refl at_p has) x in
              (found.0, state-outside sig r v stands g nodes.valid i s (state_test v i s) p true found.0 at_p found.1)
          by (Left n) at x = by_written (written_state r n s) refl
            where
              by_written : (o : Option ℕ) → written_state r n s ≡ o → Found sig h before.valid g (λ k. StateBefore r k (place_of r stands i) (Left n) s (state_test v i s))
              by_written (Some u) e = (g, IsNarrowed-start sig g _ nodes.valid (λ k. rw e (rw e at x)))
              by_written None e =
                  let at_n = place_of-left r stands i n at in
                  let here = HasNodeSite-place sig r v stands (all_places r stands) asked g nodes i n s at_n has in
                  let found = Found-test sig h before.valid g nodes.valid implied n s here (State (state_test v i s)) (known_state sig r v stands (all_places r stands) asked g nodes i n s (state_test v i s) refl at_n has) (rw e at x) in
                  (found.0, state-unwritten sig r v stands g nodes.valid i s (state_test v i s) n true found.0 e found.1)

      found_at : LinkAt h (place_of r stands) i s (link_test v i s) → Found sig h before.valid g (λ k. LinkAt k (place_of r stands) i s (link_test v i s))
      found_at (p, at_p, x) = by (link_at (place_of r stands) (link_test v i s)) refl
        where
          by : (o : Option LinkTest) → link_at (place_of r stands) (link_test v i s) ≡ o → Found sig h before.valid g (λ k. LinkAt k (place_of r stands) i s (link_test v i s))
          by None e = absurd (link_at-none (place_of r stands) h (link_test h p s) (link_test v i s) e x)
          by (Some test) e =
              let here = HasNodeSite-place sig r v stands (all_places r stands) asked g nodes i p s at_p has in
              let found = Found-test sig h before.valid g nodes.valid implied p s here (Link test) (known_link sig r v stands (all_places r stands) asked g nodes i p s (link_test v i s) test refl e) (link_at-implied (place_of r stands) h (link_test h p s) (link_test v i s) test e x) in
              (found.0, link-there sig r v stands g nodes.valid i s (link_test v i s) p test true found.0 at_p e found.1)

      found_link : LinkBefore r h stands (place_of r stands i) stand s (link_test v i s) → Found sig h before.valid g (λ k. LinkBefore r k stands (place_of r stands i) stand s (link_test v i s))
      found_link x = by (link_written r stand s) refl
        where
          by : (o : Option Written) → link_written r stand s ≡ o → Found sig h before.valid g (λ k. LinkBefore r k stands (place_of r stands i) stand s (link_test v i s))
          by (Some w) e = (g, IsNarrowed-start sig g _ nodes.valid (λ k. (written_is sig r v stands g nodes.valid i s stand (link_test v i s) at w e k).0 ((written_is sig r v stands g nodes.valid i s stand (link_test v i s) at w e h).1 x)))
          by None e =
              let found = found_at (unwritten_from sig r v stands g nodes.valid i s stand (link_test v i s) at e h x) in
              (found.0, link-unwritten sig r v stands g nodes.valid i s stand (link_test v i s) at true found.0 e found.1)

      found_unfreed : Found sig h before.valid g (λ k. ¬ IsFreed freed i s → LinkBefore r k stands (place_of r stands i) stand s (link_test v i s))
      found_unfreed = elim (is_freed_or freed i s) [
        | inl listed ↦ (g, IsNarrowed-start sig g _ nodes.valid (λ k against. absurd (against listed)))
        | inr against ↦
            let found = found_link (before.links i s stand at against) in
            (found.0, link-unfreed sig r v stands g nodes.valid i s stand (link_test v i s) at freed true found.0 against found.1)
      ]

  -- ---- all that is asked

  nodes_below : (g mid : List Node) → HasNodes sig r v stands g → IsPatternOver sig mid → Implies mid g → HasNodes sig r v stands mid
  nodes_below g mid nodes valid implied = record { valid = valid; types = implied.types ∙ nodes.types }

  found_site : (g : List Node) → HasNodes sig r v stands g → Implies h g → (i s : ℕ) → Found sig h before.valid g (NodeSiteBefore r v stands freed i s)
  found_site g nodes implied i s = by_stand (slice_get stands i) refl
    where
      here : (stand : Stand) → slice_get stands i ≡ Some stand → HasNodeSite v i s → Found sig h before.valid g (NodeSiteBefore r v stands freed i s)
      here stand at has =
          let both = Found-both sig h before.valid g
          (λ k. StateBefore r k (place_of r stands i) stand s (state_test v i s))
          (λ k. ¬ IsFreed freed i s → LinkBefore r k stands (place_of r stands i) stand s (link_test v i s))
          implied (before.states i s stand at) (found_state g nodes implied i s stand at has)
          (λ mid valid below implied'. found_unfreed mid (nodes_below g mid nodes valid below) implied' i s stand at has) in
          (both.0, site-one sig r v stands (all_places r stands) asked freed i s stand true g both.0 at both.1)

      nowhere : (stand : Stand) → slice_get stands i ≡ Some stand → (state_test v i s ≡ state.Any) → (link_test v i s ≡ Any) → Found sig h before.valid g (NodeSiteBefore r v stands freed i s)
      nowhere stand at no_state no_link =
          let node = some_at v i (let within = slice_get_within stands i stand at in let count = before.stand.count in omega arith) in
          let typed = agent_at-node v i node.0 node.1 in (
            g,
            IsNarrowed-start sig g (NodeSiteBefore r v stands freed i s) nodes.valid (λ k stand' at'. (
              rw no_state (untested_state sig r v stands (all_places r stands) asked freed i s node.0.agent stand' k at' typed),
              λ against. rw no_link (untested_link sig r v stands (all_places r stands) asked freed i s node.0.agent stand' k at' typed),
            )),
          )

      by_stand : (o : Option Stand) → slice_get stands i ≡ o → Found sig h before.valid g (NodeSiteBefore r v stands freed i s)
      by_stand None at = (g, IsNarrowed-start sig g (NodeSiteBefore r v stands freed i s) nodes.valid (λ k stand at'. absurd cc))
      by_stand (Some stand) at = elim (site_or_any v i s) [
        | inl x ↦ here stand at (rw x.1 refl)
        | inr none ↦ nowhere stand at none.0 none.1
      ]

  found_node : (g : List Node) → HasNodes sig r v stands g → Implies h g → (i : ℕ) → Found sig h before.valid g (NodeBefore r v stands freed i)
  found_node g nodes implied i = by (slice_get v i) refl
    where
      by : (o : Option Node) → slice_get v i ≡ o → Found sig h before.valid g (NodeBefore r v stands freed i)
      by None at = (g, IsNarrowed-start sig g (NodeBefore r v stands freed i) nodes.valid (λ k stand at'. absurd (let within = slice_get_within stands i stand at' in let count = before.stand.count in let node = some_at v i (omega arith) in let e = node.1 in cc)))
      by (Some node) at =
          let count = length (state_counts sig node.agent) in
          let all = Found-below sig h before.valid g (NodeSiteBefore r v stands freed i) nodes.valid implied (λ s stand at'. asks.1 i stand at' s)
          (λ s mid valid below implied'. found_site mid (nodes_below g mid nodes valid below) implied' i s) count in
          (all.0, sites-all sig r v stands (all_places r stands) asked freed i node.agent count g all.0 (agent_at-node v i node at) (omega arith) all.1)

  found_nodes : (g : List Node) → HasNodes sig r v stands g → Implies h g → Found sig h before.valid g (NodesBefore r v stands freed)
  found_nodes g nodes implied =
      let all = Found-below sig h before.valid g (NodeBefore r v stands freed) nodes.valid implied asks.1
      (λ i mid valid below implied'. found_node mid (nodes_below g mid nodes valid below) implied' i) (length v) in
      (all.0, nodes-all sig r v stands (all_places r stands) asked freed (length v) g all.0 (omega arith) all.1)

  found_sources : (g : List Node) → HasNodes sig r v stands g → Implies h g → Found sig h before.valid g (SourcesBefore r stands freed)
  found_sources g nodes implied =
      let all = Found-below sig h before.valid g (SourceBelow r stands freed) nodes.valid implied (λ k f at. asks.0 f (k, at)) each (length freed) in
      (all.0, sources-all sig r stands freed g (length freed) all.0 (omega arith) all.1)
    where
      each : (k : ℕ) (mid : List Node) → IsPatternOver sig mid → Implies mid g → Implies h mid → Found sig h before.valid mid (SourceBelow r stands freed k)
      each k mid valid below implied' = by (slice_get freed k) refl
        where
          by : (o : Option FreedBy) → slice_get freed k ≡ o → Found sig h before.valid mid (SourceBelow r stands freed k)
          by None at = (mid, IsNarrowed-start sig mid (SourceBelow r stands freed k) valid (λ x f at'. absurd cc))
          by (Some f) at =
              let found = found_source mid (nodes_below g mid nodes valid below) implied' f (k, at) in
              (found.0, source-one sig r stands freed mid k f true found.0 at found.1)

  pub most_general_exists : (g : List Node) × IsMostGeneralBefore sig r v stands freed g
  most_general_exists =
      let start = appended sig (outside_types v stands) (outside_known sig v stands over.types) r.left rule.left in
      let nodes : HasNodes sig r v stands start.0 = record { valid = start.1; types = start.2 } in
      let implied = Implies-before sig r v stands freed start.0 before.stand nodes start.3 h before in
      let both = Found-both sig h before.valid start.0 (SourcesBefore r stands freed) (NodesBefore r v stands freed) implied asks.0 (found_sources start.0 nodes implied)
      (λ mid valid below implied'. found_nodes mid (nodes_below start.0 mid nodes valid below) implied') in
      (both.0, IsMostGeneralBefore-narrowed sig r v stands freed start.0 before.stand nodes start.3 both.0 both.1)
