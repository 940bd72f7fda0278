-- The stands of a pattern that stands after a firing, and the list of its tests that the side effect made true.
use Rattle.std.proofs.Common.{◌≡◌, ℕ, zero, suc, ◌+◌, ◌<◌, ◌⊎◌, inl, inr, Bool, true, false, List, [], ◌∷◌, ◌++◌, refl, sym, ap, ◌∙◌, length, arith}
use Rattle.std.specs.Prelude.{Option, Some, None, slice_get}
use Rattle.std.specs.Option.{option_map_or}
use Rattle.std.proofs.lemmas.Option.{slice_get_within, some_pair_parts}
use Rattle.kasa_graph.specs.declared.pattern.Node.{Node}
use Rattle.kasa_graph.specs.declared.mixture.Agent.{Agent}
use Rattle.kasa_graph.specs.declared.pattern.LinkTest.{LinkTest}
use Rattle.kasa_graph.specs.declared.pattern.LinkTest.TheVariants as test
use Rattle.kasa_graph.specs.Lists.{Has, AllDifferent}
use Rattle.kasa_graph.specs.Pattern.{link_test}
use Rattle.kasa_graph.specs.Mixture.{partner_in}
use Rattle.kasa_rules.specs.declared.rule.Written.{Written}
use Rattle.kasa_rules.specs.Rule.{RuleParts}
use Rattle.kasa_rules.specs.Firing.{node_on, link_on, touched_on}
use Rattle.kasa_graph.proofs.ListLemmas.{below_or, slice_get-append_left, slice_get-append_right}
use Rattle.kasa_rules.proofs.FiringLemmas.{node_on-found, node_on-at}
use Rattle.kasa_pre.specs.declared.Stand.{Stand}
use Rattle.kasa_pre.specs.declared.Stand.TheVariants.{Left, Made, Outside}
use Rattle.kasa_pre.specs.declared.FreedBy.{FreedBy}
use Rattle.kasa_pre.specs.LiesOn.{LiesOn, AllLieOn, WasFreed, AreJustFreed}
use Rattle.kasa_graph.proofs.ShapeLemmas.{site_or_any, node_of_site}
use Rattle.kasa_pre.proofs.PlaceLemmas.{in_append}
use Rattle.kasa_pre.proofs.BeforeLemmas.{left_touched}

-- ---- stands

pub stand_exists : (cells : List ℕ) (first c : ℕ) → AllDifferent cells → (stand : Stand) × LiesOn cells first stand c
stand_exists cells first c different = by_node (node_on cells c) refl
  where
    by_node : (o : Option ℕ) → node_on cells c ≡ o → (stand : Stand) × LiesOn cells first stand c
    by_node (Some n) e = (Left n, node_on-found cells c n e)
    by_node None e =
        elim (below_or c first) [
          | inl within ↦ (Outside, (within, λ has. let some = node_on-at cells c has.0 different has.1 in cc))
          | inr k ↦ (Made k.0, k.1)
        ]

-- each list of cells has stands
pub stands_exist : (cells : List ℕ) (first : ℕ) (after : List ℕ) → AllDifferent cells → (stands : List Stand) × AllLieOn cells first stands after
stands_exist cells first [] different = ([], record { count = refl; each = λ i c stand e f. absurd cc })
stands_exist cells first (c ∷ after) different =
    let stand = stand_exists cells first c different in
    let rest = stands_exist cells first after different in
    (stand.0 ∷ rest.0, record { count = ap suc rest.1.count; each = each stand.0 stand.1 rest.0 rest.1 })
  where
    each : (stand : Stand) → LiesOn cells first stand c → (stands : List Stand) → AllLieOn cells first stands after → (i d : ℕ) (other : Stand) → slice_get (stand ∷ stands) i ≡ Some other → slice_get (c ∷ after) i ≡ Some d → LiesOn cells first other d
    each stand on stands lie zero d other e f = let a : stand ≡ other = cc in let b : c ≡ d = cc in rw (← a, ← b) on
    each stand on stands lie (suc i) d other e f = lie.each i d other e f

-- ---- lists for each number below a bound

abbrev gather : {X : Type 0} → (ℕ → List X) → ℕ → List X
gather f zero = []
gather f (suc n) = gather f n ++ f n

gather-in : {X : Type 0} (f : ℕ → List X) (n : ℕ) (x : X) → Has (gather f n) x → (i : ℕ) × Has (f i) x
gather-in f zero x has = absurd (let e = has.1 in cc)
gather-in f (suc n) x has =
    elim (in_append (gather f n) (f n) has.0 x has.1) [
      | inl old ↦ gather-in f n x (has.0, old)
      | inr new ↦ (n, (new.0, new.2))
    ]

gather-has : {X : Type 0} (f : ℕ → List X) (n i : ℕ) (x : X) → i < n → Has (f i) x → Has (gather f n) x
gather-has f zero i x within has = absurd (omega arith)
gather-has f (suc n) i x within has =
    elim (below_or i n) [
      | inl below ↦
          let old = gather-has f n i x below has in
          (old.0, slice_get-append_left (gather f n) (f n) old.0 (slice_get_within (gather f n) old.0 x old.1) ∙ old.1)
      | inr k ↦
          let same : i ≡ n = let e = k.1 in omega arith in
          (length (gather f n) + has.0, slice_get-append_right (gather f n) (f n) has.0 (length (gather f n) + has.0) refl ∙ ap (λ (j : ℕ). slice_get (f j) has.0) (sym same) ∙ has.1)
    ]

-- ---- the tests that the side effect made true

abbrev pub freed_by : ℕ → ℕ → ℕ → ℕ → FreedBy
freed_by i s n t = record { node = i; site = s; from = n; «at» = t }

module _ (r : RuleParts) (cells : List ℕ) (different : AllDifferent cells) (m : List (Option Agent)) (v : List Node) (after : List ℕ) where
  freed_or_not : (i s : ℕ) → ((n t : ℕ) × WasFreed r cells m v after (freed_by i s n t)) ⊎ ((n t : ℕ) → ¬ WasFreed r cells m v after (freed_by i s n t))
  freed_or_not i s = by_test (link_test v i s) refl
    where
      by_touched : (c d t : ℕ) → link_test v i s ≡ test.Free → slice_get after i ≡ Some c → partner_in m c s ≡ Some (d, t) → link_on r cells c s ≡ None → (b : Bool) → touched_on r cells d t ≡ b → ((n t : ℕ) × WasFreed r cells m v after (freed_by i s n t)) ⊎ ((n t : ℕ) → ¬ WasFreed r cells m v after (freed_by i s n t))
      by_touched c d t e f g h true k =
          let n = left_touched r cells d t k in
          inl (n.0, t, record { test = e; cell = c; lies = f; source = d; source_lies = n.1; was = g; unwritten = h; source_touched = n.2 })
      by_touched c d t e f g h false k = inr (λ n u was.
          let cell : was.cell ≡ c = let a = was.lies in cc in
          let same = some_pair_parts was.source d u t (sym was.was ∙ ap (λ (x : ℕ). partner_in m x s) cell ∙ g) in
          let there = node_on-at cells d n different (was.source_lies ∙ ap Some same.0) in
          let gone : touched_on r cells d t ≡ true = rw there (rw (← same.1) was.source_touched) in
          cc)

      by_link : (c d t : ℕ) → link_test v i s ≡ test.Free → slice_get after i ≡ Some c → partner_in m c s ≡ Some (d, t) → (o : Option Written) → link_on r cells c s ≡ o → ((n t : ℕ) × WasFreed r cells m v after (freed_by i s n t)) ⊎ ((n t : ℕ) → ¬ WasFreed r cells m v after (freed_by i s n t))
      by_link c d t e f g None h = by_touched c d t e f g h (touched_on r cells d t) refl
      by_link c d t e f g (Some w) h = inr (λ n u was.
          let cell : was.cell ≡ c = let a = was.lies in cc in
          let none = rw cell at was.unwritten in
          cc)

      by_partner : (c : ℕ) → link_test v i s ≡ test.Free → slice_get after i ≡ Some c → (o : Option (ℕ × ℕ)) → partner_in m c s ≡ o → ((n t : ℕ) × WasFreed r cells m v after (freed_by i s n t)) ⊎ ((n t : ℕ) → ¬ WasFreed r cells m v after (freed_by i s n t))
      by_partner c e f None g = inr (λ n u was.
          let cell : was.cell ≡ c = let a = was.lies in cc in
          let some = rw cell at was.was in
          cc)
      by_partner c e f (Some p) g = by_link c p.0 p.1 e f g (link_on r cells c s) refl

      by_cell : link_test v i s ≡ test.Free → (o : Option ℕ) → slice_get after i ≡ o → ((n t : ℕ) × WasFreed r cells m v after (freed_by i s n t)) ⊎ ((n t : ℕ) → ¬ WasFreed r cells m v after (freed_by i s n t))
      by_cell e None f = inr (λ n u was. let a = was.lies in cc)
      by_cell e (Some c) f = by_partner c e f (partner_in m c s) refl

      by_test : (b : LinkTest) → link_test v i s ≡ b → ((n t : ℕ) × WasFreed r cells m v after (freed_by i s n t)) ⊎ ((n t : ℕ) → ¬ WasFreed r cells m v after (freed_by i s n t))
      by_test test.Any e = inr (λ n u was. let a = was.test in cc)
      by_test test.Free e = by_cell e (slice_get after i) refl
      by_test test.Bound e = inr (λ n u was. let a = was.test in cc)
      by_test (test.Partner b y) e = inr (λ n u was. let a = was.test in cc)
      by_test (test.To j y) e = inr (λ n u was. let a = was.test in cc)

  -- a test was freed by one site alone
  same_source : (i s n t k u : ℕ) → WasFreed r cells m v after (freed_by i s n t) → WasFreed r cells m v after (freed_by i s k u) → freed_by i s n t ≡ freed_by i s k u
  same_source i s n t k u was also =
      let cell : was.cell ≡ also.cell = let a = was.lies in let b = also.lies in cc in
      let same = some_pair_parts was.source also.source t u (sym was.was ∙ ap (λ (x : ℕ). partner_in m x s) cell ∙ also.was) in
      let from : n ≡ k = different n k also.source (was.source_lies ∙ ap Some same.0) also.source_lies in
      ap (λ (x : ℕ). freed_by i s x t) from ∙ ap (λ (x : ℕ). freed_by i s k x) same.1

  abbrev FreedHere : ℕ → ℕ → Type 0
  FreedHere i s = (freed : List FreedBy) × ((f : FreedBy) → Has freed f → WasFreed r cells m v after f) × ((n t : ℕ) → WasFreed r cells m v after (freed_by i s n t) → Has freed (freed_by i s n t))

  freed_here : (i s : ℕ) → FreedHere i s
  freed_here i s =
      elim (freed_or_not i s) [
        | inl was ↦ (freed_by i s was.0 was.1 ∷ [], one was.0 was.1 was.2, λ n t also. (zero, ap Some (same_source i s was.0 was.1 n t was.2 also)))
        | inr none ↦ ([], λ f has. absurd (let e = has.1 in cc), λ n t was. absurd (none n t was))
      ]
    where
      one : (n t : ℕ) → WasFreed r cells m v after (freed_by i s n t) → (f : FreedBy) → Has (freed_by i s n t ∷ []) f → WasFreed r cells m v after f
      one n t was f (zero, e) = let same : freed_by i s n t ≡ f = cc in rw (← same) was
      one n t was f (suc k, e) = absurd cc

  abbrev sites_at : ℕ → ℕ
  sites_at i = option_map_or (λ (node : Node). length node.sites) (slice_get v i) 0

  freed_tests : List FreedBy
  freed_tests = gather (λ i. gather (λ s. (freed_here i s).0) (sites_at i)) (length v)

  -- there is such a list
  pub freed_exist : length after ≡ length v → (freed : List FreedBy) × AreJustFreed r cells m v after freed
  unfolding freed_tests
  freed_exist count = (freed_tests, record { just = λ f. (into f, out f) })
    where
      into : (f : FreedBy) → Has freed_tests f → WasFreed r cells m v after f
      into f has =
          let i = gather-in (λ i. gather (λ s. (freed_here i s).0) (sites_at i)) (length v) f has in
          let s = gather-in (λ s. (freed_here i.0 s).0) (sites_at i.0) f i.1 in
          (freed_here i.0 s.0).1 f s.1

      site_within : (f : FreedBy) → WasFreed r cells m v after f → f.site < sites_at f.node
      site_within f was =
          elim (site_or_any v f.node f.site) [
            | inl x ↦ let node = node_of_site v f.node f.site x.0 x.1 in rw node.1 (slice_get_within node.0.sites f.site x.0 node.2)
            | inr none ↦ absurd (let a = was.test in let b = none.1 in cc)
          ]

      out : (f : FreedBy) → WasFreed r cells m v after f → Has freed_tests f
      out f was =
          let i_within : f.node < length v = rw (← count) (slice_get_within after f.node was.cell was.lies) in
          gather-has (λ i. gather (λ s. (freed_here i s).0) (sites_at i)) (length v) f.node f i_within
          (gather-has (λ s. (freed_here f.node s).0) (sites_at f.node) f.site f (site_within f was) ((freed_here f.node f.site).2 f.from f.«at» was))
