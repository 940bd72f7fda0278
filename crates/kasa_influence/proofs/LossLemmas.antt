-- What was an embedding of another rule's left pattern is one after a firing, or the first rule has a loss for the other.
use Rattle.std.proofs.Common.{◌≡◌, ◌≢◌, ℕ, zero, suc, ◌+◌, ◌<◌, ◌⊎◌, inl, inr, Bool, true, false, List, [], ◌∷◌, ◌++◌, refl, sym, ap, ◌∙◌, length, arith}
use Rattle.std.specs.Prelude.{Option, Some, None, slice_get, option_map}
use Rattle.std.specs.Option.{option_map_or}
use Rattle.std.proofs.lemmas.Option.{slice_get_within, some_pair_parts}
use Rattle.kasa_graph.specs.declared.pattern.Node.{Node}
use Rattle.kasa_graph.specs.declared.mixture.Agent.{Agent}
use Rattle.kasa_graph.specs.Signature.{TypeEntry}
use Rattle.kasa_graph.specs.declared.pattern.StateTest.{StateTest}
use Rattle.kasa_graph.specs.declared.pattern.StateTest.TheVariants as state
use Rattle.kasa_graph.specs.declared.pattern.LinkTest.{LinkTest}
use Rattle.kasa_graph.specs.declared.pattern.LinkTest.TheVariants as test
use Rattle.kasa_lists.specs.Lists.{AllDifferent}
use Rattle.kasa_graph.specs.Pattern.{agent_at, state_test, link_test, types_of, StateImplies, LinkImplies}
use Rattle.kasa_graph.specs.Mixture.{type_in, state_in, partner_in, IsMixtureOver}
use Rattle.kasa_graph.specs.Embedding.{IsEmbedding, MeetsState, MeetsLink}
use Rattle.kasa_lists.proofs.Options.{some_then}
use Rattle.kasa_lists.proofs.Numbers.{same_or_not}
use Rattle.kasa_lists.proofs.Elements.{some_at, slice_get-append_left, slice_get-append_right, same_elements, in_append}
use Rattle.kasa_graph.proofs.TestLemmas.{agent_at-types, length-types}
use Rattle.kasa_families.specs.Table.{Table, AreTables}
use Rattle.kasa_rules.specs.declared.rule.Fate.{Fate}
use Rattle.kasa_rules.specs.declared.rule.Fate.TheVariants.{Deleted, Kept}
use Rattle.kasa_rules.specs.declared.rule.End.{End}
use Rattle.kasa_rules.specs.declared.rule.End.TheVariants as «end»
use Rattle.kasa_rules.specs.declared.rule.Written.{Written}
use Rattle.kasa_rules.specs.declared.rule.Written.TheVariants.{Free, To}
use Rattle.kasa_rules.specs.Rule.{RuleParts, fate_at, written_state, written_link, end_type, end_link, IsRuleOver}
use Rattle.kasa_rules.specs.Firing.{fire, node_on, fate_on, state_on, link_on, touched_on, end_cell, partner_at, unless, kept_partner}
use Rattle.kasa_rules.proofs.FiringLemmas.{node_on-found, node_on-at, untouched}
use Rattle.kasa_rules.proofs.FiredLemmas.{type_within, type_in-fire_new}
use Rattle.kasa_pre.specs.declared.Stand.TheVariants.{Left}
use Rattle.kasa_pre.specs.Place.{ImpliesAt}
use Rattle.kasa_pre.specs.Before.{WrittenMeets}
use Rattle.kasa_pre.specs.Closed.{Cover}
use Rattle.kasa_graph.proofs.ShapeLemmas.{IsShaped}
use Rattle.kasa_pre.proofs.ShapeLemmas.{site_of_node}
use Rattle.kasa_graph.proofs.ShapeLemmas.{site_or_any, node_of_site, agent_at-node}
use Rattle.kasa_pre.proofs.Cut.{cut, cut_type, length-cut, IsEmbedding-cut}
use Rattle.kasa_pre.proofs.CutLemmas.{bond_in_cut, IsPatternOver-cut, StateImplies-cut, ImpliesAt-cut}
use Rattle.kasa_pre.proofs.LeftLemmas.{typed_node}
use Rattle.kasa_pre.proofs.BeforeLemmas.{left_touched}
use Rattle.kasa_pre.proofs.CoverLemmas.{IsAllowed-cover}
use Rattle.kasa_influence.specs.Alone.{alone, unnamed}
use Rattle.kasa_influence.specs.Loss.{AsksPartner, IsBroken, LosesPartner, Loses}
use Rattle.kasa_influence.proofs.SearchLemmas.{IsEmbedding-or}
use Rattle.kasa_influence.proofs.TouchLemmas.{not_touched, touched-past}
use Rattle.kasa_influence.proofs.AloneLemmas.{agent_at-alone, state_test-alone, link_test-alone, unnamed_asks, met_unnamed}
use Rattle.kasa_influence.proofs.AfterLemmas.{type_in-stays, state_in-stays, state_in-written, partner_in-stays, met_after, left_within, partner_below, end_exists, partner_in-written}

-- ---- general facts

-- through places that stay as they are
LinkImplies-of_place : (g : List Node) (a b : LinkTest) → ImpliesAt g (λ n. Some n) a b → LinkImplies g a b
LinkImplies-of_place g a test.Any p = tt
LinkImplies-of_place g a test.Free p = p
LinkImplies-of_place g a test.Bound p = p
LinkImplies-of_place g a (test.Partner b y) p = p
LinkImplies-of_place g a (test.To n t) p = let same : n ≡ p.0 = cc in rw p.2 (sym same, refl)

length-snoc : {X : Type 0} (xs : List X) (x : X) → length (xs ++ x ∷ []) ≡ suc (length xs)
length-snoc [] x = refl
length-snoc (y ∷ xs) x = ap suc (length-snoc xs x)

-- the element of a list of one
only : {X : Type 0} (x y : X) (j : ℕ) → slice_get (x ∷ []) j ≡ Some y → (x ≡ y) × (j ≡ 0)
only x y zero e = (cc, refl)
only x y (suc j) e = absurd cc

AllDifferent-snoc : (cells : List ℕ) (c : ℕ) → AllDifferent cells → ((n : ℕ) → slice_get cells n ≢ Some c) → AllDifferent (cells ++ c ∷ [])
AllDifferent-snoc cells c different out i j x e f =
    elim (in_append cells (c ∷ []) i x e) [
      | inl first ↦ elim (in_append cells (c ∷ []) j x f) [
        | inl second ↦ different i j x first second
        | inr last ↦ absurd (out i (first ∙ ap Some (sym (only c x last.0 last.2).0)))
      ]
      | inr last ↦ elim (in_append cells (c ∷ []) j x f) [
        | inl second ↦ absurd (out j (second ∙ ap Some (sym (only c x last.0 last.2).0)))
        | inr last' ↦ let a = last.1 in let b = last'.1 in let d = (only c x last.0 last.2).1 in let h = (only c x last'.0 last'.2).1 in omega arith
      ]
    ]

-- the types of a cut
types_of-cut : (m : List (Option Agent)) (cells types : List ℕ) → length cells ≡ length types → ((n c a : ℕ) → slice_get cells n ≡ Some c → slice_get types n ≡ Some a → type_in m c ≡ Some a) → types_of (cut m cells) ≡ types
types_of-cut m cells types count typed =
    same_elements (types_of (cut m cells)) types (sym (length-types (cut m cells)) ∙ length-cut m cells ∙ count) (λ n a b e f.
    let c = some_at cells n (rw count (slice_get_within types n b f)) in
    let g : Some a ≡ Some b = sym e ∙ sym (agent_at-types (cut m cells) n) ∙ cut_type m cells n c.0 b c.1 (typed n c.0 b c.1 f) in
    cc)

-- a test that asks for a partner does so without a name
asks_partner : (g : List Node) (b : LinkTest) → AsksPartner b → AsksPartner (unnamed g b)
asks_partner g test.Any asks = asks
asks_partner g test.Free asks = asks
asks_partner g test.Bound asks = tt
asks_partner g (test.Partner a x) asks = tt
asks_partner g (test.To n t) asks = by_type (agent_at g n)
  where
    by_type : (o : Option ℕ) → AsksPartner (option_map_or (λ b. test.Partner b t) o test.Bound)
    by_type None = tt
    by_type (Some a) = tt

type_is : (o : Option ℕ) (b : ℕ) → (o ≡ Some b) ⊎ (o ≢ Some b)
type_is None b = inr (λ e. cc)
type_is (Some a) b = elim (same_or_not a b) [ inl e ↦ inl (ap Some e) | inr ne ↦ inr (λ (e : Some a ≡ Some b). ne cc) ]

module _ (sig : List TypeEntry) (tables : List Table) (r r2 : RuleParts) (cells : List ℕ) (m : List (Option Agent)) (ok : AreTables sig tables) (over : IsMixtureOver sig m) (cover : Cover sig tables m) (rule : IsRuleOver sig r) (at : IsEmbedding r.left m cells) (shaped : IsShaped sig r2.left) (others : List ℕ) (before : IsEmbedding r2.left m others) where
  -- the type of an end with a written link is the one of its cell after the firing
  type_after : (e : End) (s : ℕ) (w : Written) (d b : ℕ) → end_link r e s ≡ Some w → end_cell cells (length m) e ≡ Some d → end_type r e ≡ Some b → type_in (fire r cells m) d ≡ Some b
  type_after («end».Left n) s w d b is on typed =
      type_in-stays r cells m d (left_within sig r cells m over rule at n d on) (rw (node_on-at cells d n at.different on) (λ gone. let none = rule.is_rule.deleted_link n s gone in cc)) ∙ at.types n d b on typed
  type_after («end».Made k) s w d b is on typed = let e : length m + k ≡ d = cc in type_in-fire_new r cells m k d e ∙ typed

  -- a node of the pattern, and its cell
  module _ (i c : ℕ) (node : Node) (here : slice_get others i ≡ Some c) (is : slice_get r2.left i ≡ Some node) where
    typed : type_in m c ≡ Some node.agent
    typed = before.types i c node.agent here (agent_at-node r2.left i node is)

    within : c < length m
    within = type_within m c node.agent typed

    -- a loss at the node, by the cut at the cells of the firing and, where it is another, its own cell
    module _ (list : List ℕ) (place : ℕ) (first : (n d : ℕ) → slice_get cells n ≡ Some d → slice_get list n ≡ Some d) (on_place : slice_get list place ≡ Some c) (different : AllDifferent list) (alive : (n d : ℕ) → slice_get list n ≡ Some d → (a : ℕ) × (type_in m d ≡ Some a)) where
      left_states : (n s : ℕ) → StateImplies (state_test (cut m list) n s) (state_test r.left n s)
      left_states n s =
          elim (site_or_any r.left n s) [
            | inl x ↦
                let there = node_of_site r.left n s x.0 x.1 in
                let d = some_at cells n (rw at.count (slice_get_within r.left n there.0 there.1)) in
                StateImplies-cut sig m over list different alive n d.0 s (state_test r.left n s) (first n d.0 d.1) (at.states n d.0 s d.1)
            | inr none ↦ rw none.0 tt
          ]

      left_links : (n s : ℕ) → LinkImplies (cut m list) (link_test (cut m list) n s) (link_test r.left n s)
      left_links n s =
          elim (site_or_any r.left n s) [
            | inl x ↦
                let there = node_of_site r.left n s x.0 x.1 in
                let d = some_at cells n (rw at.count (slice_get_within r.left n there.0 there.1)) in
                let y = site_of_node sig m over r.left rule.left.sites n d.0 s x.0 x.1 (λ a f. at.types n d.0 a d.1 f) in
                LinkImplies-of_place (cut m list) _ _ (ImpliesAt-cut sig m over list different alive cells (λ n. Some n) (λ j e f below. (j, refl, first j e f)) n d.0 s y.0 (link_test r.left n s) (first n d.0 d.1) y.1 (at.links n d.0 s d.1))
            | inr none ↦ rw none.1 tt
          ]

      own_links : (s : ℕ) → LinkImplies (cut m list) (link_test (cut m list) place s) (link_test (alone r2.left node) 0 s)
      own_links s =
          elim (site_or_any r2.left i s) [
            | inl x ↦
                let y = site_of_node sig m over r2.left shaped i c s x.0 x.1 (λ a f. before.types i c a here f) in
                rw (link_test-alone r2.left i node is s)
                (LinkImplies-of_place (cut m list) _ _ (ImpliesAt-cut sig m over list different alive [] (λ n. Some n) (λ j e f below. absurd cc) place c s y.0 (unnamed r2.left (link_test r2.left i s)) on_place y.1 (met_unnamed r2.left m others before [] (partner_in m c s) (link_test r2.left i s) (before.links i c s here))))
            | inr none ↦ rw (link_test-alone r2.left i node is s, none.1) tt
          ]

      loses : (types_of (cut m list) ≡ types_of r.left) ⊎ ((place ≡ length r.left) × (types_of (cut m list) ≡ types_of r.left ++ node.agent ∷ [])) → IsBroken r r2.left i (alone r2.left node) place ⊎ LosesPartner r r2.left i (alone r2.left node) (cut m list) place → Loses sig tables r r2
      loses nodes lost = record {
        live = IsAllowed-cover sig tables m r.left cells ok over cover at;
        number = i;
        node = node;
        «at» = is;
        pattern = cut m list;
        place = place;
        stops = record {
          valid = IsPatternOver-cut sig m over list different alive;
          allowed = IsAllowed-cover sig tables m (cut m list) list ok over cover (IsEmbedding-cut m list different alive);
          nodes = nodes;
          left_states = left_states;
          left_links = left_links;
          of_type = cut_type m list place c node.agent on_place typed ∙ sym (agent_at-alone r2.left i node is);
          states = λ s. rw (state_test-alone r2.left i node is s) (StateImplies-cut sig m over list different alive place c s (state_test r2.left i s) on_place (before.states i c s here));
          links = own_links;
          lost = lost;
        };
      }

    left_alive : (n d : ℕ) → slice_get cells n ≡ Some d → (a : ℕ) × (type_in m d ≡ Some a)
    left_alive n d e = let a = typed_node r.left m cells at n d e in (a.0, a.2)

    left_count : length cells ≡ length (types_of r.left)
    left_count = at.count ∙ length-types r.left

    left_typed : (n d a : ℕ) → slice_get cells n ≡ Some d → slice_get (types_of r.left) n ≡ Some a → type_in m d ≡ Some a
    left_typed n d a e f = at.types n d a e (agent_at-types r.left n ∙ f)

    -- where a left node lies on the cell
    loses_left : (n : ℕ) → node_on cells c ≡ Some n → IsBroken r r2.left i (alone r2.left node) n ⊎ LosesPartner r r2.left i (alone r2.left node) (cut m cells) n → Loses sig tables r r2
    loses_left n on lost = loses cells n (λ k d e. e) (node_on-found cells c n on) at.different left_alive (inl (types_of-cut m cells (types_of r.left) left_count left_typed)) lost

    -- where none does
    loses_outside : node_on cells c ≡ None → ((first : (n d : ℕ) → slice_get cells n ≡ Some d → slice_get (cells ++ c ∷ []) n ≡ Some d) → slice_get (cells ++ c ∷ []) (length r.left) ≡ Some c → AllDifferent (cells ++ c ∷ []) → LosesPartner r r2.left i (alone r2.left node) (cut m (cells ++ c ∷ [])) (length r.left)) → Loses sig tables r r2
    loses_outside none lost =
        loses (cells ++ c ∷ []) (length r.left) first on_place different alive (inr (refl, types_of-cut m (cells ++ c ∷ []) (types_of r.left ++ node.agent ∷ []) count all_typed)) (inr (lost first on_place different))
      where
        first : (n d : ℕ) → slice_get cells n ≡ Some d → slice_get (cells ++ c ∷ []) n ≡ Some d
        first n d e = slice_get-append_left cells (c ∷ []) n (slice_get_within cells n d e) ∙ e

        on_place : slice_get (cells ++ c ∷ []) (length r.left) ≡ Some c
        on_place = slice_get-append_right cells (c ∷ []) 0 (length r.left) (let e = at.count in omega arith)

        out : (n : ℕ) → slice_get cells n ≢ Some c
        out n e = let some = node_on-at cells c n at.different e in cc

        different : AllDifferent (cells ++ c ∷ [])
        different = AllDifferent-snoc cells c at.different out

        alive : (n d : ℕ) → slice_get (cells ++ c ∷ []) n ≡ Some d → (a : ℕ) × (type_in m d ≡ Some a)
        alive n d e =
            elim (in_append cells (c ∷ []) n d e) [
              | inl old ↦ left_alive n d old
              | inr last ↦ (node.agent, ap (type_in m) (sym (only c d last.0 last.2).0) ∙ typed)
            ]

        count : length (cells ++ c ∷ []) ≡ length (types_of r.left ++ node.agent ∷ [])
        count = length-snoc cells c ∙ ap suc left_count ∙ sym (length-snoc (types_of r.left) node.agent)

        all_typed : (n d a : ℕ) → slice_get (cells ++ c ∷ []) n ≡ Some d → slice_get (types_of r.left ++ node.agent ∷ []) n ≡ Some a → type_in m d ≡ Some a
        all_typed n d a e f =
            elim (in_append cells (c ∷ []) n d e) [
              | inl old ↦ left_typed n d a old (sym (slice_get-append_left (types_of r.left) (node.agent ∷ []) n (rw (← left_count) (slice_get_within cells n d old))) ∙ f)
              | inr last ↦
                  let j = only c d last.0 last.2 in
                  let past : length (types_of r.left) + 0 ≡ n = let a = last.1 in let b = j.1 in let h = left_count in omega arith in
                  let agent : Some node.agent ≡ Some a = sym (slice_get-append_right (types_of r.left) (node.agent ∷ []) 0 n past) ∙ f in
                  ap (type_in m) (sym j.0) ∙ typed ∙ agent
            ]

    stays_or : (fate_on r cells c ≢ Some Deleted) ⊎ Loses sig tables r r2
    stays_or = by_fate (fate_on r cells c) refl
      where
        by_fate : (fate : Option Fate) → fate_on r cells c ≡ fate → (fate_on r cells c ≢ Some Deleted) ⊎ Loses sig tables r r2
        by_fate (Some Deleted) e = let on = some_then (fate_at r) (node_on cells c) Deleted e in inr (loses_left on.0 on.1 (inl (inl on.2)))
        by_fate (Some Kept) e = inl (λ f. let g : Some Kept ≡ Some Deleted = sym e ∙ f in cc)
        by_fate None e = inl (λ f. let g : None ≡ Some Deleted = sym e ∙ f in cc)

    module _ (stays : fate_on r cells c ≢ Some Deleted) where
      state_or : (s : ℕ) → MeetsState (state_in (fire r cells m) c s) (state_test r2.left i s) ⊎ Loses sig tables r r2
      state_or s = by_test (state_test r2.left i s) refl (state_on r cells c s) refl
        where
          by_test : (b : StateTest) → state_test r2.left i s ≡ b → (o : Option ℕ) → state_on r cells c s ≡ o → MeetsState (state_in (fire r cells m) c s) (state_test r2.left i s) ⊎ Loses sig tables r r2
          by_test state.Any e o f = inl (rw e tt)
          by_test (state.Is w) e None f = inl (rw (state_in-stays r cells m c s within stays f) (before.states i c s here))
          by_test (state.Is w) e (Some u) f =
              let was : state_in m c s ≡ Some w = rw e at (before.states i c s here) in
              elim (same_or_not u w) [
                | inl same ↦ inl (rw e (state_in-written r cells m c s u w within stays f was ∙ ap Some same))
                | inr other ↦
                    let on = some_then (λ n. written_state r n s) (node_on cells c) u f in
                    inr (loses_left on.0 on.1 (inl (inr (inl (s, u, w, state_test-alone r2.left i node is s ∙ e, on.2, other)))))
              ]

      -- a partner that the firing takes away
      loses_partner : (s d t : ℕ) → AsksPartner (link_test r2.left i s) → link_on r cells c s ≡ None → partner_in m c s ≡ Some (d, t) → touched_on r cells d t ≡ true → Loses sig tables r r2
      loses_partner s d t asks none was gone = by_node (node_on cells c) refl
        where
          asks' : AsksPartner (link_test (alone r2.left node) 0 s)
          asks' = rw (link_test-alone r2.left i node is s) (asks_partner r2.left (link_test r2.left i s) asks)

          by_node : (o : Option ℕ) → node_on cells c ≡ o → Loses sig tables r r2
          by_node (Some n) e =
              let source = left_touched r cells d t gone in
              loses_left n e (inr (s, source.0, t, asks', bond_in_cut m cells at.different n c s d t source.0 (node_on-found cells c n e) was source.1, source.2, not_touched r n s (rw e at stays) (rw e at none)))
          by_node None e =
              let source = left_touched r cells d t gone in
              loses_outside e (λ first on_place different. (s, source.0, t, asks', bond_in_cut m (cells ++ c ∷ []) different (length r.left) c s d t source.0 on_place was (first source.0 d source.1), source.2, touched-past r (length r.left) (let count = rule.is_rule.actions in omega arith) s))

      link_or : (s : ℕ) → MeetsLink (fire r cells m) others (partner_in (fire r cells m) c s) (link_test r2.left i s) ⊎ Loses sig tables r r2
      link_or s = by_link (link_on r cells c s) refl
        where
          broken : (n : ℕ) (w : Written) → node_on cells c ≡ Some n → written_link r n s ≡ Some w → link_test r2.left i s ≢ test.Any → ((k t : ℕ) × (link_test r2.left i s ≡ test.To k t)) ⊎ (¬ WrittenMeets r (Left n ∷ []) w (link_test (alone r2.left node) 0 s)) → Loses sig tables r r2
          broken n w on written asks how =
              let asks' : link_test (alone r2.left node) 0 s ≢ test.Any = rw (link_test-alone r2.left i node is s) (unnamed_asks r2.left (link_test r2.left i s) asks) in
              loses_left n on (inl (inr (inr (s, w, asks', written, how))))

          unmet : (n : ℕ) (w : Written) (b : LinkTest) → link_test r2.left i s ≡ b → unnamed r2.left b ≡ b → ¬ WrittenMeets r (Left n ∷ []) w b → ¬ WrittenMeets r (Left n ∷ []) w (link_test (alone r2.left node) 0 s)
          unmet n w b e f not = rw (link_test-alone r2.left i node is s, e, f) not

          to_met : (n : ℕ) (f : End) (u : ℕ) → slice_get cells n ≡ Some c → written_link r n s ≡ Some (To f u) → (d : ℕ) × (end_cell cells (length m) f ≡ Some d) × (partner_in (fire r cells m) c s ≡ Some (d, u))
          to_met n f u lies written =
              let d = end_exists sig r cells m over rule at f u (To («end».Left n) s) (rule.is_rule.both_ways («end».Left n) f s u written) in
              (d.0, d.1, partner_in-written sig r cells m over rule at n c s (To f u) lies stays written ∙ ap (option_map (partner_at u)) d.1)

          by_test : (n : ℕ) (w : Written) → node_on cells c ≡ Some n → written_link r n s ≡ Some w → (b : LinkTest) → link_test r2.left i s ≡ b → MeetsLink (fire r cells m) others (partner_in (fire r cells m) c s) b ⊎ Loses sig tables r r2
          by_test n w on written test.Any e = inl tt
          by_test n Free on written test.Free e = inl (partner_in-written sig r cells m over rule at n c s Free (node_on-found cells c n on) stays written)
          by_test n (To f u) on written test.Free e = inr (broken n (To f u) on written (rw e (λ g. cc)) (inr (unmet n (To f u) test.Free e refl (λ x. x))))
          by_test n Free on written test.Bound e = inr (broken n Free on written (rw e (λ g. cc)) (inr (unmet n Free test.Bound e refl (λ x. x))))
          by_test n (To f u) on written test.Bound e = let d = to_met n f u (node_on-found cells c n on) written in inl (d.0, u, d.2)
          by_test n Free on written (test.Partner b y) e = inr (broken n Free on written (rw e (λ g. cc)) (inr (unmet n Free (test.Partner b y) e refl (λ x. x))))
          by_test n (To f u) on written (test.Partner b y) e =
              elim (type_is (end_type r f) b) [
                | inr other ↦ inr (broken n (To f u) on written (rw e (λ g. cc)) (inr (unmet n (To f u) (test.Partner b y) e refl (λ x. other x.0))))
                | inl agent ↦ elim (same_or_not u y) [
                  | inr other ↦ inr (broken n (To f u) on written (rw e (λ g. cc)) (inr (unmet n (To f u) (test.Partner b y) e refl (λ x. other x.1))))
                  | inl same ↦
                      let d = to_met n f u (node_on-found cells c n on) written in
                      inl (d.0, d.2 ∙ ap (λ (z : ℕ). let o : Option (ℕ × ℕ) = Some (d.0, z) in o) same, type_after f u (To («end».Left n) s) d.0 b (rule.is_rule.both_ways («end».Left n) f s u written) d.1 agent)
                ]
              ]
          by_test n w on written (test.To k t) e = inr (broken n w on written (rw e (λ g. cc)) (inl (k, t, e)))

          none_met : (d t : ℕ) → link_on r cells c s ≡ None → partner_in m c s ≡ Some (d, t) → touched_on r cells d t ≡ true → (b : LinkTest) → link_test r2.left i s ≡ b → MeetsLink m others (Some (d, t)) b → MeetsLink (fire r cells m) others None b ⊎ Loses sig tables r r2
          none_met d t none was gone test.Any e met = inl tt
          none_met d t none was gone test.Free e met = inl refl
          none_met d t none was gone test.Bound e met = inr (loses_partner s d t (rw e tt) none was gone)
          none_met d t none was gone (test.Partner b y) e met = inr (loses_partner s d t (rw e tt) none was gone)
          none_met d t none was gone (test.To k y) e met = inr (loses_partner s d t (rw e tt) none was gone)

          by_touched : (d t : ℕ) → link_on r cells c s ≡ None → partner_in m c s ≡ Some (d, t) → (b : Bool) → touched_on r cells d t ≡ b → MeetsLink m others (Some (d, t)) (link_test r2.left i s) → MeetsLink (fire r cells m) others (unless b (d, t)) (link_test r2.left i s) ⊎ Loses sig tables r r2
          by_touched d t none was true f met = none_met d t none was f (link_test r2.left i s) refl met
          by_touched d t none was false f met =
              inl (met_after r cells m others (Some (d, t)) (link_test r2.left i s) (λ x u g.
              let below = partner_below sig r cells m over rule at c s x u (was ∙ g) in
              (below, lives d t x u f g)) met)
            where
              lives : (d t x u : ℕ) → touched_on r cells d t ≡ false → ◌≡◌ {A = Option (ℕ × ℕ)} (Some (d, t)) (Some (x, u)) → fate_on r cells x ≢ Some Deleted
              lives d t x u f g = let same : d ≡ x = (some_pair_parts d x t u g).0 in rw (← same) (untouched r cells d t f).0

          by_partner : link_on r cells c s ≡ None → (o : Option (ℕ × ℕ)) → partner_in m c s ≡ o → MeetsLink m others o (link_test r2.left i s) → MeetsLink (fire r cells m) others (kept_partner r cells o) (link_test r2.left i s) ⊎ Loses sig tables r r2
          by_partner none None was met = inl (met_after r cells m others None (link_test r2.left i s) (λ d t g. absurd cc) met)
          by_partner none (Some p) was met = by_touched p.0 p.1 none was (touched_on r cells p.0 p.1) refl met

          by_link : (o : Option Written) → link_on r cells c s ≡ o → MeetsLink (fire r cells m) others (partner_in (fire r cells m) c s) (link_test r2.left i s) ⊎ Loses sig tables r r2
          by_link (Some w) f =
              let on = some_then (λ n. written_link r n s) (node_on cells c) w f in
              by_test on.0 w on.1 on.2 (link_test r2.left i s) refl
          by_link None f = rw (partner_in-stays r cells m c s within stays f) (by_partner f (partner_in m c s) refl (before.links i c s here))

  -- an embedding before is one afterwards, or there is a loss
  pub after_or_loses : IsEmbedding r2.left (fire r cells m) others ⊎ Loses sig tables r r2
  after_or_loses = IsEmbedding-or r2.left (fire r cells m) others (Loses sig tables r r2) types states links before.count before.different
    where
      types : (n c : ℕ) (node : Node) → slice_get others n ≡ Some c → slice_get r2.left n ≡ Some node → (type_in (fire r cells m) c ≡ Some node.agent) ⊎ Loses sig tables r r2
      types n c node e is = elim (stays_or n c node e is) [ inl stays ↦ inl (type_in-stays r cells m c (within n c node e is) stays ∙ typed n c node e is) | inr found ↦ inr found ]

      states : (n c s : ℕ) (node : Node) → slice_get others n ≡ Some c → slice_get r2.left n ≡ Some node → MeetsState (state_in (fire r cells m) c s) (state_test r2.left n s) ⊎ Loses sig tables r r2
      states n c s node e is = elim (stays_or n c node e is) [ inl stays ↦ state_or n c node e is stays s | inr found ↦ inr found ]

      links : (n c s : ℕ) (node : Node) → slice_get others n ≡ Some c → slice_get r2.left n ≡ Some node → MeetsLink (fire r cells m) others (partner_in (fire r cells m) c s) (link_test r2.left n s) ⊎ Loses sig tables r r2
      links n c s node e is = elim (stays_or n c node e is) [ inl stays ↦ link_or n c node e is stays s | inr found ↦ inr found ]
