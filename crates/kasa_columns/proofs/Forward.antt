-- Each column of a row that a rule yields comes from what it showed before, and so does the row.
use Rattle.std.proofs.Common.{◌≡◌, ℕ, zero, suc, ◌<◌, ◌⊎◌, inl, inr, true, List, sym, ap, ◌∙◌, length, arith, Some, None}
use Rattle.std.specs.Prelude.{slice_get, MatchOption}
use Rattle.std.specs.List.{AllByRecursion, AllZip}
use Rattle.std.proofs.lemmas.List.{length-map}
use Rattle.std.proofs.lemmas.Option.{same_Some, slice_get_within}
use Rattle.kasa_graph.specs.declared.pattern.Node.{Node}
use Rattle.kasa_graph.specs.declared.pattern.LinkTest.TheVariants as test
use Rattle.kasa_graph.specs.Signature.{TypeEntry, state_counts, HasSite}
use Rattle.kasa_graph.specs.Lists.{Has}
use Rattle.kasa_graph.specs.Pattern.{agent_at, state_test, link_test, types_of, StateImplies}
use Rattle.kasa_graph.specs.Embedding.{MeetsState}
use Rattle.kasa_graph.proofs.ListLemmas.{slice_get-append_left, some_at}
use Rattle.kasa_graph.proofs.TestLemmas.{agent_at-types}
use Rattle.kasa_graph.proofs.SiteLemmas.{HasNodeSite-over}
use Rattle.kasa_rules.specs.Rule.{RuleParts, IsRuleOver, touched, made_link}
use Rattle.kasa_families.specs.declared.row.LocalLink.TheVariants as local
use Rattle.kasa_families.specs.declared.row.Local.{Local}
use Rattle.kasa_families.specs.declared.shape.NodeSite.{NodeSite}
use Rattle.kasa_families.specs.declared.shape.Bond.{Bond}
use Rattle.kasa_families.specs.Local.{IsLocal, LocalAgrees}
use Rattle.kasa_families.specs.Shape.{Shape, Nth, at, ends, IsShape, root_of, pattern_of, AreColumns, ColumnsAgree}
use Rattle.kasa_families.specs.Place.{IsPlace}
use Rattle.kasa_families.proofs.ColumnLemmas.{All-at, nth_of, to_nth, first_end, second_end, types_of-pattern, TestsLocal}
use Rattle.kasa_families.proofs.OverLemmas.{IsPatternOver-pattern_of}
use Rattle.kasa_families.proofs.RowPattern.{TestsLocals-pattern_of, length_of}
use Rattle.kasa_pre.specs.declared.Stand.{Stand}
use Rattle.kasa_pre.specs.declared.Stand.TheVariants.{Left, Made, Outside}
use Rattle.kasa_pre.specs.declared.FreedBy.{FreedBy}
use Rattle.kasa_pre.specs.Asked.{IsAsked}
use Rattle.kasa_pre.specs.Place.{ImpliesAt}
use Rattle.kasa_pre.specs.Before.{WrittenMeets, place_of, outside_types, state_written, link_written, IsFreed, AreFreed, IsBefore}
use Rattle.kasa_pre.proofs.ActsLemmas.{touched_within}
use Rattle.kasa_pre.proofs.AskedLemmas.{place_typed, place_of-left}
use Rattle.kasa_pre.proofs.Implied.{StatesAgree-general}
use Rattle.kasa_pre.proofs.FoundBefore.{is_freed_or}
use Rattle.kasa_pre.proofs.SpotPlaces.{IsBondAt, IsPlace-follows}
use Rattle.kasa_columns.specs.Comes.{state_after, local_after, local_freed}
use Rattle.kasa_columns.specs.Forward.{LeavesBonds, StandAgrees, AgreesLeft}
use Rattle.kasa_columns.proofs.SiteLemmas.{state_comes, link_comes, partner_was, shown_link, same_local, free_link, agrees_left}
use Rattle.kasa_columns.proofs.Places.{WasThere, place_list, length-place_list, place_list-at, place_list-of, one_place, has_place, all_places}
use Rattle.kasa_columns.proofs.Zips.{all_of, zip_both}
use Rattle.kasa_columns.proofs.ShapeTests.{columns_apart, agent_of, first_test, free_column, column_typed}
use Rattle.kasa_columns.proofs.Along.{named_within}
use Rattle.kasa_columns.proofs.Created.{state_of_made}
use Rattle.kasa_columns.proofs.ColumnOutcomes.{SiteComes, StandComes, OneSource, IsOutcome, comes_out}

abbrev pub nothing : Local
nothing = record { state = None; link = local.Free }

module _ (sig : List TypeEntry) (r : RuleParts) (rule : IsRuleOver sig r) (shape : Shape) (ok : IsShape sig shape) (locals : List Local) (row : AreColumns sig shape.types shape.columns locals) where
  abbrev v : List Node
  v = pattern_of sig shape locals

  module _ (stands : List Stand) (freed : List FreedBy) (g : List Node) (free : AreFreed r v stands freed) (before : IsBefore sig r v stands freed g) where
    pub stands_count : length stands ≡ length shape.types
    stands_count = before.stand.count ∙ length_of v shape.types (types_of-pattern sig shape locals)

    -- ---- freed tests

    freed_typed : (f : FreedBy) → Has freed f → (a : ℕ) × (agent_at v f.node ≡ Some a)
    freed_typed f has =
        let a = column_typed sig shape ok locals (at f.node f.site) (free_column sig shape ok locals f.node f.site (free.free f has)) in
        (a.0, agent_of sig shape ok locals f.node a.0 a.1)

    unwritten_there : (stand : Stand) (s : ℕ) → link_written r stand s ≡ None → WasThere stand
    unwritten_there (Left n) s e = tt
    unwritten_there (Made k) s e = absurd cc
    unwritten_there Outside s e = tt

    freed_place : (f : FreedBy) → Has freed f → (p : ℕ) × (place_of r stands f.node ≡ Some p) × (link_test g p f.site ≡ test.To f.from f.«at»)
    freed_place f has =
        let stand = free.unwritten f has in
        let p = has_place r stands f.node stand.0 stand.1 (unwritten_there stand.0 f.site stand.2) in
        (p.0, p.1, before.sources f has p.0 p.1)

    -- bonds are mutual, so no site frees two tests
    one_source : OneSource freed
    one_source f h has has' from site =
        let p = freed_place f has in
        let q = freed_place h has' in
        let back = before.valid.linked.both_ways p.0 f.site f.from f.«at» p.2 in
        let other_back = before.valid.linked.both_ways q.0 h.site h.from h.«at» q.2 in
        let to : test.To p.0 f.site ≡ test.To q.0 h.site = sym back ∙ ap (λ (n : ℕ). link_test g n f.«at») from ∙ ap (λ (s : ℕ). link_test g h.from s) site ∙ other_back in
        let place : p.0 ≡ q.0 = cc in
        let sites : f.site ≡ h.site = cc in
        let a = freed_typed f has in
        let b = freed_typed h has' in
        let node = one_place r v stands before.stand f.node h.node a.0 b.0 q.0 a.1 b.1 (p.1 ∙ ap Some place) q.1 in
        λ i. record { node = node i; site = sites i }

    -- a shorter list of freed tests, which frees the same columns
    module _ (fewer : List FreedBy) (among : (f : FreedBy) → Has fewer f → Has freed f) (all : (c : NodeSite) → Has shape.columns c → IsFreed freed c.node c.site → IsFreed fewer c.node c.site) where
      pub free-fewer : AreFreed r v stands fewer
      free-fewer = record {
        free = λ f h. free.free f (among f h);
        unwritten = λ f h. free.unwritten f (among f h);
        by_touched = λ f h. free.by_touched f (among f h);
      }

      freed_still : (i s : ℕ) → IsFreed freed i s → IsFreed fewer i s
      freed_still i s (f, has, e, e') =
          let there : link_test v i s ≡ test.Free = ap (λ (t : ℕ). link_test v i t) (sym e') ∙ ap (λ (n : ℕ). link_test v n f.site) (sym e) ∙ free.free f has in
          all (at i s) (free_column sig shape ok locals i s there) (f, has, e, e')

      pub before-fewer : IsBefore sig r v stands fewer g
      before-fewer = record {
        stand = before.stand;
        valid = before.valid;
        types = before.types;
        left_states = before.left_states;
        left_links = before.left_links;
        states = before.states;
        links = λ i s stand at not. before.links i s stand at (λ h. not (freed_still i s h));
        sources = λ f h. before.sources f (among f h);
      }

    -- ---- nodes that were there before

    asked : IsAsked sig r v stands (all_places r stands).0
    asked = record { rule = rule; over = IsPatternOver-pattern_of sig shape ok locals row; stand = before.stand; placed = (all_places r stands).1 }

    pub typed_there : (n p a : ℕ) → place_of r stands n ≡ Some p → slice_get shape.types n ≡ Some a → agent_at g p ≡ Some a
    typed_there n p a at is = place_typed sig r v stands (all_places r stands).0 asked g (record { valid = before.valid; types = before.types }) n p a at (agent_of sig shape ok locals n a is)

    states_at : (n s p : ℕ) (stand : Stand) → WasThere stand → slice_get stands n ≡ Some stand → place_of r stands n ≡ Some p → MatchOption (state_written r stand s) (StateImplies (state_test g p s) (state_test v n s)) (λ u. MeetsState (Some u) (state_test v n s))
    states_at n s p (Left k) there at place = let same : k ≡ p = same_Some k p (sym (place_of-left r stands n k at) ∙ place) in rw (← same) (before.states n s (Left k) at)
    states_at n s p (Made k) there at place = absurd there
    states_at n s p Outside there at place = let b = before.states n s Outside at in let same : b.0 ≡ p = same_Some _ _ (sym b.1 ∙ place) in rw (← same) b.2

    links_at : (n s p : ℕ) (stand : Stand) → WasThere stand → slice_get stands n ≡ Some stand → place_of r stands n ≡ Some p → ¬ IsFreed freed n s → MatchOption (link_written r stand s) (ImpliesAt g (place_of r stands) (link_test g p s) (link_test v n s)) (λ w. WrittenMeets r stands w (link_test v n s))
    links_at n s p (Left k) there at place not = let same : k ≡ p = same_Some k p (sym (place_of-left r stands n k at) ∙ place) in rw (← same) (before.links n s (Left k) at not)
    links_at n s p (Made k) there at place not = absurd there
    links_at n s p Outside there at place not = let b = before.links n s Outside at not in let same : b.0 ≡ p = same_Some _ _ (sym b.1 ∙ place) in rw (← same) b.2

    written_within : (n a s u : ℕ) (stand : Stand) → WasThere stand → slice_get stands n ≡ Some stand → slice_get shape.types n ≡ Some a → state_written r stand s ≡ Some u → (k : ℕ) × (slice_get (state_counts sig a) s ≡ Some k) × (u < k)
    written_within n a s u (Left k) there at is e = rule.written_states k s u a (before.stand.fit n a (Left k) at (agent_of sig shape ok locals n a is)).1 e
    written_within n a s u (Made k) there at is e = absurd there
    written_within n a s u Outside there at is e = absurd cc

    -- a left node has its type in g
    typed_left : (n b : ℕ) → n < length r.left → agent_at g n ≡ Some b → agent_at r.left n ≡ Some b
    typed_left n b inside typed =
        let within : n < length (types_of r.left) = rw (length-map r.left (λ (x : Node). x.agent)) inside in
        agent_at-types r.left n
        ∙ sym (slice_get-append_left (types_of r.left) (outside_types v stands) n within)
        ∙ ap (λ (ts : List ℕ). slice_get ts n) (sym before.types)
        ∙ sym (agent_at-types g n)
        ∙ typed

    left_typed : (n b t : ℕ) → touched r n t ≡ true → agent_at g n ≡ Some b → agent_at r.left n ≡ Some b
    left_typed n b t touch typed = typed_left n b (rw (← rule.is_rule.actions) (touched_within r n t touch)) typed

    -- ---- one column

    -- what a column may have shown: at the place of its node a valid local state that doesn't contradict g
    abbrev pub Was : ℕ → NodeSite → Local → Stand → Type 0
    Was a c o (Made k) = o ≡ nothing
    Was a c o stand = (p : ℕ) × (place_of r stands c.node ≡ Some p) × IsLocal sig a c.site o × LocalAgrees g p c.site o

    abbrev pub WasShown : NodeSite → Local → Type 0
    WasShown c o = (a : ℕ) (stand : Stand) → slice_get shape.types c.node ≡ Some a → slice_get stands c.node ≡ Some stand → Was a c o stand

    -- so it doesn't contradict the left pattern
    agrees_there : (c : NodeSite) (o : Local) → Has shape.columns c → WasShown c o → WasShown c o → Nth stands c.node (StandAgrees r c.site o)
    agrees_there c o has was _ =
        let a = column_typed sig shape ok locals c has in
        let stand = some_at stands c.node (rw stands_count (slice_get_within shape.types c.node a.0 a.1)) in
        to_nth stands c.node _ stand.0 stand.1 (by a.0 stand.0 stand.1 (was a.0 stand.0 a.1 stand.1))
      where
        by : (a : ℕ) (stand : Stand) → slice_get stands c.node ≡ Some stand → Was a c o stand → StandAgrees r c.site o stand
        by a (Left n) at (p, place, is_o, agrees) =
            let same : n ≡ p = same_Some n p (sym (place_of-left r stands c.node n at) ∙ place) in
            let there : LocalAgrees g n c.site o = rw same agrees in record {
              state = StatesAgree-general _ _ _ (before.left_states n c.site) there.state;
              link = agrees_left g r.left _ _ o.link (λ m t b e typed. typed_left m b (named_within sig r rule n c.site m t e) typed) (before.left_links n c.site) there.link;
            }
        by a (Made k) at blank = tt
        by a Outside at there = tt

    pub all_agree : (shown : List Local) → AllZip WasShown shape.columns shown → AgreesLeft r stands shape.columns shown
    all_agree shown was = zip_both (Has shape.columns) WasShown WasShown _ agrees_there shape.columns shown (all_of (Has shape.columns) shape.columns (λ n c e. (n, e))) was was

    abbrev Tested : NodeSite → Local → Type 0
    Tested c l = TestsLocal v c l × ((a : ℕ) → slice_get shape.types c.node ≡ Some a → IsLocal sig a c.site l) × Has shape.columns c

    module _ (c : NodeSite) (o l : Local) (a : ℕ) (is : slice_get shape.types c.node ≡ Some a) (stand : Stand) (stand_at : slice_get stands c.node ≡ Some stand) (tests : TestsLocal v c l) (is_l : IsLocal sig a c.site l) where
      there_comes : WasThere stand → (p : ℕ) → place_of r stands c.node ≡ Some p → IsLocal sig a c.site o → LocalAgrees g p c.site o → SiteComes r freed c o l stand
      there_comes there p place is_o agrees = by (is_freed_or freed c.node c.site)
        where
          state : l.state ≡ state_after (state_written r stand c.site) o.state
          state = state_comes (slice_get (state_counts sig a) c.site) (state_test g p c.site) (state_written r stand c.site) l.state o.state (λ u. written_within c.node a c.site u stand there stand_at is) is_l.state is_o.state agrees.state (rw tests.state at (states_at c.node c.site p stand there stand_at place))

          unwritten : (f : FreedBy) → Has freed f → f.node ≡ c.node → f.site ≡ c.site → link_written r stand c.site ≡ None
          unwritten f has node site =
              let other = free.unwritten f has in
              let same : stand ≡ other.0 = same_Some stand other.0 (sym stand_at ∙ ap (λ (n : ℕ). slice_get stands n) (sym node) ∙ other.1) in
              ap (λ (x : Stand). link_written r x c.site) same ∙ ap (λ (t : ℕ). link_written r other.0 t) (sym site) ∙ other.2

          by : IsFreed freed c.node c.site ⊎ (¬ IsFreed freed c.node c.site) → SiteComes r freed c o l stand
          by (inr not) = inl (not, same_local l (local_after r stand c.site o) state (link_comes r stands g (place_of r stands) (link_test g p c.site) (link_written r stand c.site) l.link o.link agrees.link (rw tests.link at (links_at c.node c.site p stand there stand_at place not))))
          by (inl (f, has, node, site)) =
              let bond : link_test g p c.site ≡ test.To f.from f.«at» = rw site at (before.sources f has p (ap (place_of r stands) node ∙ place)) in
              let partner = partner_was g f.from f.«at» o.link (rw bond at agrees.link) in
              let there : link_test v c.node c.site ≡ test.Free = ap (λ (t : ℕ). link_test v c.node t) (sym site) ∙ ap (λ (n : ℕ). link_test v n f.site) (sym node) ∙ free.free f has in
              let none : l.link ≡ local.Free = free_link l.link (sym tests.link ∙ there) in
              let typed = left_typed f.from partner.0 f.«at» (free.by_touched f has) partner.1 in
              inr (
                f,
                has,
                record {
                  node = node;
                  site = site;
                  unwritten = unwritten f has node site;
                  exists = HasNodeSite-over sig r.left rule.left f.from partner.0 f.«at» typed (rw partner.2 at is_o.link);
                  by_touched = free.by_touched f has;
                  agent = partner.0;
                  typed = typed;
                  partner = partner.2;
                },
                same_local l (local_freed r stand c.site o) state none,
              )

    -- a created agent's column shows what was written
    module _ (c : NodeSite) (o l : Local) (a : ℕ) (is : slice_get shape.types c.node ≡ Some a) (k : ℕ) (made_here : slice_get stands c.node ≡ Some (Made k)) (tests : TestsLocal v c l) (is_l : IsLocal sig a c.site l) (has : HasSite sig a c.site) (blank : o ≡ nothing) where
      none_freed : ¬ IsFreed freed c.node c.site
      none_freed (f, has, node, site) =
          let other = free.unwritten f has in
          let same : Made k ≡ other.0 = same_Some (Made k) other.0 (sym made_here ∙ ap (λ (n : ℕ). slice_get stands n) (sym node) ∙ other.1) in
          let none : link_written r (Made k) f.site ≡ None = ap (λ (x : Stand). link_written r x f.site) same ∙ other.2 in
          cc

      made_comes : SiteComes r freed c o l (Made k)
      made_comes = inl (
        none_freed,
        same_local l (local_after r (Made k) c.site o)
            (rw blank (state_of_made sig r rule k a (before.stand.fit c.node a (Made k) made_here (agent_of sig shape ok locals c.node a is)) c.site l.state has is_l.state (rw tests.state at (before.states c.node c.site (Made k) made_here))))
            (shown_link r stands (made_link r k c.site) l.link (rw tests.link at (before.links c.node c.site (Made k) made_here none_freed))),
      )

    column_comes : (c : NodeSite) (o l : Local) → WasShown c o → Tested c l → StandComes r stands freed c o l
    column_comes c o l was (tests, locals_ok, has) =
        let a = column_typed sig shape ok locals c has in
        let inside = slice_get_within shape.types c.node a.0 a.1 in
        let stand = some_at stands c.node (rw stands_count inside) in
        (stand.0, stand.1, by a.0 a.1 a.2 stand.0 stand.1 (was a.0 stand.0 a.1 stand.1))
      where
        by : (a : ℕ) → slice_get shape.types c.node ≡ Some a → HasSite sig a c.site → (stand : Stand) → slice_get stands c.node ≡ Some stand → Was a c o stand → SiteComes r freed c o l stand
        by a is has (Left n) at (p, place, is_o, agrees) = there_comes c o l a is (Left n) at tests (locals_ok a is) tt p place is_o agrees
        by a is has (Made k) at blank = made_comes c o l a is k at tests (locals_ok a is) has blank
        by a is has Outside at (p, place, is_o, agrees) = there_comes c o l a is Outside at tests (locals_ok a is) tt p place is_o agrees

    -- ---- all columns

    columns_named : AllByRecursion (Has shape.columns) shape.columns
    columns_named = all_of (Has shape.columns) shape.columns (λ n c e. (n, e))

    all_tested : AllZip Tested shape.columns locals
    all_tested = zip_both (Has shape.columns) (TestsLocal v) (λ c l. Nth shape.types c.node (λ a. IsLocal sig a c.site l)) Tested each shape.columns locals columns_named (TestsLocals-pattern_of sig shape locals ok row) row
      where
        each : (c : NodeSite) (l : Local) → Has shape.columns c → TestsLocal v c l → Nth shape.types c.node (λ a. IsLocal sig a c.site l) → Tested c l
        each c l has tests is = (tests, locals_ok, has)
          where
            locals_ok : (a : ℕ) → slice_get shape.types c.node ≡ Some a → IsLocal sig a c.site l
            locals_ok a e = let b = nth_of shape.types c.node _ is in let same : b.0 ≡ a = same_Some b.0 a (sym b.1 ∙ e) in rw same at b.2

    pub outcome : (shown : List Local) → AllZip WasShown shape.columns shown → IsOutcome r stands freed shape.columns shown locals
    outcome shown was = comes_out r stands freed one_source WasShown Tested column_comes shape.columns shown locals (columns_apart sig shape ok locals) was all_tested

    pub was_there : (a : ℕ) (c : NodeSite) (o : Local) (stand : Stand) → WasThere stand → (p : ℕ) → place_of r stands c.node ≡ Some p → IsLocal sig a c.site o → LocalAgrees g p c.site o → Was a c o stand
    was_there a c o (Left n) there p place is agrees = (p, place, is, agrees)
    was_there a c o (Made k) there p place is agrees = absurd there
    was_there a c o Outside there p place is agrees = (p, place, is, agrees)

    -- ---- the rule leaves the bonds

    module _ (leaves : LeavesBonds r shape.bonds stands) where
      -- a node at an end of a bond was there
      end_there : (s : NodeSite) → Has (ends shape.bonds) s → (stand : Stand) × (slice_get stands s.node ≡ Some stand) × (link_written r stand s.site ≡ None)
      end_there s has = nth_of stands s.node _ (All-at _ (ends shape.bonds) has.0 s leaves has.1)

      made_no_end : (s : NodeSite) → Has (ends shape.bonds) s → (k : ℕ) → ¬ (slice_get stands s.node ≡ Some (Made k))
      made_no_end s has k e =
          let stand = end_there s has in
          let same : Made k ≡ stand.0 = same_Some (Made k) stand.0 (sym e ∙ stand.1) in
          let none : link_written r (Made k) s.site ≡ None = ap (λ (x : Stand). link_written r x s.site) same ∙ stand.2 in
          cc

      -- so a created node is the only one
      pub made_alone : (i k : ℕ) → slice_get stands i ≡ Some (Made k) → ¬ (1 < length shape.types)
      made_alone zero k e more =
          let b = ok.joined zero more in
          made_no_end b.0.first (first_end shape.bonds b.1.0 b.0 b.1.1) k (let z : b.0.first.node ≡ zero = (let small = b.3 in omega arith) in ap (λ (n : ℕ). slice_get stands n) z ∙ e)
      made_alone (suc n) k e more =
          let inside : suc n < length shape.types = rw (← stands_count) (slice_get_within stands (suc n) (Made k) e) in
          let b = ok.joined n inside in
          made_no_end b.0.second (second_end shape.bonds b.1.0 b.0 b.1.1) k (ap (λ (n : ℕ). slice_get stands n) b.2 ∙ e)

      module _ (there : AllByRecursion WasThere stands) where
        abbrev pub places : List ℕ
        places = place_list (length r.left) stands

        place_at : (i p : ℕ) → slice_get places i ≡ Some p → place_of r stands i ≡ Some p
        unfolding place_of
        place_at i p e = place_list-at (length r.left) stands there i p e

        at_place : (i p : ℕ) → place_of r stands i ≡ Some p → slice_get places i ≡ Some p
        unfolding place_of
        at_place i p e = place_list-of (length r.left) stands i p e

        places_count : length places ≡ length shape.types
        places_count = length-place_list (length r.left) stands ∙ stands_count

        node_typed : (i p : ℕ) → slice_get places i ≡ Some p → (a : ℕ) × (slice_get shape.types i ≡ Some a)
        node_typed i p e = some_at shape.types i (rw (← places_count) (slice_get_within places i p e))

        bonds_at : AllByRecursion (IsBondAt g places) shape.bonds
        bonds_at = all_of (IsBondAt g places) shape.bonds each
          where
            each : (n : ℕ) (b : Bond) → slice_get shape.bonds n ≡ Some b → IsBondAt g places b
            each n b has p q on on' =
                let stand = end_there b.first (first_end shape.bonds n b has) in
                let tests = first_test sig shape ok locals b (n, has) in
                let link = links_at b.first.node b.first.site p stand.0 (unwritten_there stand.0 b.first.site stand.2) stand.1 (place_at b.first.node p on) not_freed in
                let led : (q' : ℕ) × (place_of r stands b.second.node ≡ Some q') × (link_test g p b.first.site ≡ test.To q' b.second.site) = rw (stand.2, tests) at link in
                let same : led.0 ≡ q = same_Some led.0 q (sym led.1 ∙ place_at b.second.node q on') in
                rw same at led.2
              where
                not_freed : ¬ IsFreed freed b.first.node b.first.site
                not_freed (f, is, node, site) =
                    let there : link_test v b.first.node b.first.site ≡ test.Free = ap (λ (t : ℕ). link_test v b.first.node t) (sym site) ∙ ap (λ (n : ℕ). link_test v n f.site) (sym node) ∙ free.free f is in
                    let f : test.To b.second.node b.second.site ≡ test.Free = sym (first_test sig shape ok locals b (n, has)) ∙ there in
                    cc

        pub root_at : IsPlace (root_of sig shape) g places
        root_at =
            let first = some_at places 0 (rw places_count ok.some) in
            IsPlace-follows sig g before.valid shape ok first.0 places (record {
              count = places_count;
              first = first.1;
              different = λ i j p e f. let a = node_typed i p e in let b = node_typed j p f in one_place r v stands before.stand i j a.0 b.0 p (agent_of sig shape ok locals i a.0 a.1) (agent_of sig shape ok locals j b.0 b.1) (place_at i p e) (place_at j p f);
              types = λ i p a on is. typed_there i p a (place_at i p on) is;
              bonds = bonds_at;
            })

        -- a row that is compatible there may have been shown
        pub was_stored : (shown : List Local) → AreColumns sig shape.types shape.columns shown → ColumnsAgree g places shape.columns shown → AllZip WasShown shape.columns shown
        was_stored shown valid agree = zip_both (Has shape.columns) (λ c l. Nth shape.types c.node (λ a. IsLocal sig a c.site l)) (λ c l. Nth places c.node (λ n. LocalAgrees g n c.site l)) WasShown each shape.columns shown columns_named valid agree
          where
            each : (c : NodeSite) (o : Local) → Has shape.columns c → Nth shape.types c.node (λ a. IsLocal sig a c.site o) → Nth places c.node (λ n. LocalAgrees g n c.site o) → WasShown c o
            each c o has is agrees a stand typed at =
                let b = nth_of shape.types c.node _ is in
                let same : b.0 ≡ a = same_Some b.0 a (sym b.1 ∙ typed) in
                let p = nth_of places c.node _ agrees in
                was_there a c o stand (All-at WasThere stands c.node stand there at) p.0 (place_at c.node p.0 p.1) (rw same at b.2) p.2
