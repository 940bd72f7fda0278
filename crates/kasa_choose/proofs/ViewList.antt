-- The plan of views as a list is just the planned views, in order.
use Rattle.std.proofs.Common.{◌≡◌, ◌≢◌, ℕ, zero, suc, ◌+◌, ◌<◌, ◌≤◌, ◌⊎◌, inl, inr, ◌↔◌, Bool, true, false, not, ◌||◌, ◌&&◌, cond, List, [], ◌∷◌, ◌++◌, length, map, take, drop, refl, ap, sym, subst, ◌∙◌, arith, Option, Some, None}
use Rattle.std.specs.Prelude.{nat_eq, nat_lt}
use Rattle.std.specs.List.{filter, flat_map, list_any, range_with_len}
use Rattle.std.proofs.lemmas.Bool.{eqb-true, eq-eqb, ltb-true, lt-ltb}
use Rattle.kasa_lists.specs.Lists.{Has}
use Rattle.kasa_lists.proofs.Having.{Has-[], Has-head, Has-later, Has-cons, Has-append, Has-left, Has-right, Has-map, Has-of_map}
use Rattle.kasa_graph.specs.Signature.{state_counts}
use Rattle.kasa_graph.specs.Pattern.{agent_at}
use Rattle.kasa_graph.proofs.FitLemmas.{agent_at_within}
use Rattle.kasa_rules.specs.declared.model.Model.{Model}
use Rattle.kasa_rules.specs.Rule.{RuleParts}
use Rattle.kasa_rules.specs.Reached.{IsModel}
use Rattle.kasa_families.specs.declared.family.Family.{Family}
use Rattle.kasa_families.specs.declared.family.Family.TheVariants.{View, Across, Parallel, Chain}
use Rattle.kasa_report.proofs.InOrder.{AreBelow, AreBelow-numbered, ordered_same}
use Rattle.kasa_choose.specs.Views.{numbers, is_type, has_type, mentioned_sites, sets_of_rule, mentioned_sets, has, unmentioned_sites, is_some_set, parts, site_sets, is_within, is_largest, precedes, put, in_order, view_sets, all_views}
use Rattle.kasa_choose.specs.ViewPlan.{Mentions, IsLeftNode, IsMentioned, IsListOf, IsMentionedSet, IsUnmentionedSet, IsPart, IsSiteSet, IsWithin, IsViewOf, IsPlanned, PrecedesList, Precedes, IsViewPlan}
use Rattle.kasa_choose.specs.ViewSets.{IsInNoLarger}
use Rattle.kasa_choose.proofs.PlanLists.{IsListOf-same}
use Rattle.kasa_choose.proofs.MentionLemmas.{mentioned_listed}
use Rattle.kasa_choose.proofs.PlanLemmas.{view_empty}
use Rattle.kasa_choose.proofs.TestLemmas.{and_told, or_told, implies_told, not_told, filter_has, any_has, all_has, has_told, flat_has, range_has, numbers_has, Ascends-range}

-- ---- what the tests tell

type_told : (r : RuleParts) (a n : ℕ) → has_type r a n ≡ true ↔ IsLeftNode r n a
type_told r a n = by (agent_at r.left n)
  where
    by : (o : Option ℕ) → is_type a o ≡ true ↔ (o ≡ Some a)
    by None = (λ h. absurd cc, λ is. absurd cc)
    by (Some b) = (λ h. ap Some (eqb-true b a h), λ is. let same : b ≡ a = cc in eq-eqb b a same)

within_told : (xs ys : List ℕ) → is_within xs ys ≡ true ↔ IsWithin xs ys
within_told xs ys =
    let told = all_has (has ys) xs in (
      λ h s own. (has_told ys s).0 (told.0 h s own),
      λ within. told.1 (λ s own. (has_told ys s).1 (within s own)),
    )

largest_told : (sets : List (List ℕ)) (sites : List ℕ) → is_largest sets sites ≡ true ↔ IsInNoLarger sets sites
largest_told sets sites =
    let told = all_has (λ others. not (is_within sites others) || is_within others sites) sets in (
      λ h others own within. (within_told others sites).0 ((implies_told (is_within sites others) (is_within others sites)).0 (told.0 h others own) ((within_told sites others).1 within)),
      λ largest. told.1 (λ others own. (implies_told (is_within sites others) (is_within others sites)).1 (λ within. (within_told others sites).1 (largest others own ((within_told sites others).0 within)))),
    )

some_told : (sites : List ℕ) → is_some_set sites ≡ true ↔ (sites ≢ [])
some_told [] = (λ h. absurd cc, λ some. absurd (some refl))
some_told (s ∷ sites) = (λ h none. absurd cc, λ some. refl)

-- ---- the sets of a type

module _ (model : Model) (valid : IsModel model) (a : ℕ) where
  mentioned_told : (whole : List ℕ) → Has (mentioned_sets model a) whole ↔ IsMentionedSet model a whole
  mentioned_told whole = (there, back)
    where
      there : Has (mentioned_sets model a) whole → IsMentionedSet model a whole
      there h =
          let (r, rule, own) = (flat_has (sets_of_rule model a) model.rules whole).0 h in
          let (n, node, is) = Has-of_map (mentioned_sites model a r) (filter (has_type r a) (numbers (length r.left))) whole own in
          let left = (type_told r a n).0 ((filter_has (has_type r a) (numbers (length r.left)) n).0 node).1 in
          (r, n, rule, left, subst (IsListOf (Mentions r n)) is (mentioned_listed model.sig r n a (valid.rules rule.0 r rule.1) left))

      back : IsMentionedSet model a whole → Has (mentioned_sets model a) whole
      back (r, n, rule, left, list) =
          let same : mentioned_sites model a r n ≡ whole = IsListOf-same (Mentions r n) (mentioned_sites model a r n) whole (mentioned_listed model.sig r n a (valid.rules rule.0 r rule.1) left) list in
          let node = (filter_has (has_type r a) (numbers (length r.left)) n).1 ((numbers_has (length r.left) n).1 (agent_at_within r.left n a left), (type_told r a n).1 left) in
          let own = Has-map (mentioned_sites model a r) (filter (has_type r a) (numbers (length r.left))) n node in
          (flat_has (sets_of_rule model a) model.rules whole).1 (r, rule, subst (Has (sets_of_rule model a r)) same own)

  -- some set has the site just where some left node mentions it
  site_told : (s : ℕ) → list_any (λ set. has set s) (mentioned_sets model a) ≡ true ↔ IsMentioned model a s
  site_told s = (there, back)
    where
      there : list_any (λ set. has set s) (mentioned_sets model a) ≡ true → IsMentioned model a s
      there h =
          let (set, own, told) = (any_has (λ set. has set s) (mentioned_sets model a)).0 h in
          let (r, n, rule, left, list) = (mentioned_told set).0 own in
          (r, n, rule, left, (list.exact s).0 ((has_told set s).0 told))

      back : IsMentioned model a s → list_any (λ set. has set s) (mentioned_sets model a) ≡ true
      back (r, n, rule, left, mentioned) =
          let list = mentioned_listed model.sig r n a (valid.rules rule.0 r rule.1) left in
          let own = (mentioned_told (mentioned_sites model a r n)).1 (r, n, rule, left, list) in
          (any_has (λ set. has set s) (mentioned_sets model a)).1 (mentioned_sites model a r n, own, (has_told (mentioned_sites model a r n) s).1 ((list.exact s).1 mentioned))

  unmentioned_told : IsUnmentionedSet model a (unmentioned_sites model a)
  unmentioned_told = record {
    ascends = Ascends-range _ 0 (length (state_counts model.sig a));
    exact = λ s.
        let told = filter_has (λ s. not (list_any (λ set. has set s) (mentioned_sets model a))) (numbers (length (state_counts model.sig a))) s in
        let mentioned = not_told (list_any (λ set. has set s) (mentioned_sets model a)) in (
          λ h. ((numbers_has (length (state_counts model.sig a)) s).0 (told.0 h).0, λ is. mentioned.0 (told.0 h).1 ((site_told s).1 is)),
          λ own. told.1 ((numbers_has (length (state_counts model.sig a)) s).1 own.0, mentioned.1 (λ yes. own.1 ((site_told s).0 yes))),
        );
  }

  part_told : (whole sites : List ℕ) → Has (parts whole) sites ↔ (IsPart whole sites × (sites ≢ []))
  part_told whole sites =
      let told = filter_has is_some_set (take 16 whole ∷ drop 16 whole ∷ []) sites in (
        λ h. (either (told.0 h).0, (some_told sites).0 (told.0 h).1),
        λ own. told.1 (one_of own.0, (some_told sites).1 own.1),
      )
    where
      either : Has (take 16 whole ∷ drop 16 whole ∷ []) sites → IsPart whole sites
      either h = elim (Has-cons (take 16 whole) (drop 16 whole ∷ []) sites h) [
        | inl is ↦ inl is
        | inr more ↦ elim (Has-cons (drop 16 whole) [] sites more) [ inl is ↦ inr is | inr none ↦ absurd (Has-[] sites none) ]
      ]

      one_of : IsPart whole sites → Has (take 16 whole ∷ drop 16 whole ∷ []) sites
      one_of (inl is) = (0, ap Some (sym is))
      one_of (inr is) = (1, ap Some (sym is))

  sets_told : (sites : List ℕ) → Has (site_sets model a) sites ↔ IsSiteSet model a sites
  sets_told sites =
      let whole_sets = mentioned_sets model a ++ unmentioned_sites model a ∷ [] in
      let told = flat_has parts whole_sets sites in (
        λ h. let (whole, own, part) = told.0 h in let p = (part_told whole sites).0 part in (whole, whole_of whole own, p.0, p.1),
        λ (whole, own, part, some). told.1 (whole, of_whole whole own, (part_told whole sites).1 (part, some)),
      )
    where
      whole_of : (whole : List ℕ) → Has (mentioned_sets model a ++ unmentioned_sites model a ∷ []) whole → IsMentionedSet model a whole ⊎ IsUnmentionedSet model a whole
      whole_of whole h = elim (Has-append (mentioned_sets model a) (unmentioned_sites model a ∷ []) whole h) [
        | inl own ↦ inl ((mentioned_told whole).0 own)
        | inr last ↦ elim (Has-cons (unmentioned_sites model a) [] whole last) [
          | inl is ↦ inr (subst (IsUnmentionedSet model a) (sym is) unmentioned_told)
          | inr none ↦ absurd (Has-[] whole none)
        ]
      ]

      of_whole : (whole : List ℕ) → IsMentionedSet model a whole ⊎ IsUnmentionedSet model a whole → Has (mentioned_sets model a ++ unmentioned_sites model a ∷ []) whole
      of_whole whole (inl own) = Has-left (mentioned_sets model a) (unmentioned_sites model a ∷ []) whole ((mentioned_told whole).1 own)
      of_whole whole (inr own) =
          let same = IsListOf-same _ (unmentioned_sites model a) whole unmentioned_told own in
          Has-right (mentioned_sets model a) (unmentioned_sites model a ∷ []) whole (0, ap Some same)

-- ---- the order of sets

pub lists_asym : (xs ys : List ℕ) → PrecedesList xs ys → PrecedesList ys xs → ⊥
lists_asym [] [] p q = p
lists_asym [] (y ∷ ys) p q = q
lists_asym (x ∷ xs) [] p q = p
lists_asym (x ∷ xs) (y ∷ ys) (inl a) (inl b) = omega arith
lists_asym (x ∷ xs) (y ∷ ys) (inl a) (inr b) = let e = b.0 in omega arith
lists_asym (x ∷ xs) (y ∷ ys) (inr a) (inl b) = let e = a.0 in omega arith
lists_asym (x ∷ xs) (y ∷ ys) (inr a) (inr b) = lists_asym xs ys a.1 b.1

lists-trans : (xs ys zs : List ℕ) → PrecedesList xs ys → PrecedesList ys zs → PrecedesList xs zs
lists-trans [] [] zs p q = absurd p
lists-trans [] (y ∷ ys) [] p q = absurd q
lists-trans [] (y ∷ ys) (z ∷ zs) p q = tt
lists-trans (x ∷ xs) [] zs p q = absurd p
lists-trans (x ∷ xs) (y ∷ ys) [] p q = absurd q
lists-trans (x ∷ xs) (y ∷ ys) (z ∷ zs) (inl p) (inl q) = inl (omega arith)
lists-trans (x ∷ xs) (y ∷ ys) (z ∷ zs) (inl p) (inr q) = inl (let e = q.0 in omega arith)
lists-trans (x ∷ xs) (y ∷ ys) (z ∷ zs) (inr p) (inl q) = inl (let e = p.0 in omega arith)
lists-trans (x ∷ xs) (y ∷ ys) (z ∷ zs) (inr p) (inr q) = inr (p.0 ∙ q.0, lists-trans xs ys zs p.1 q.1)

number_order : (x y : ℕ) → (x < y) ⊎ (x ≡ y) ⊎ (y < x)
number_order zero zero = inr (inl refl)
number_order zero (suc y) = inl (omega arith)
number_order (suc x) zero = inr (inr (omega arith))
number_order (suc x) (suc y) = elim (number_order x y) [
  | inl less ↦ inl (omega arith)
  | inr (inl e) ↦ inr (inl (ap suc e))
  | inr (inr more) ↦ inr (inr (omega arith))
]

list_order : (xs ys : List ℕ) → PrecedesList xs ys ⊎ (xs ≡ ys) ⊎ PrecedesList ys xs
list_order [] [] = inr (inl refl)
list_order [] (y ∷ ys) = inl tt
list_order (x ∷ xs) [] = inr (inr tt)
list_order (x ∷ xs) (y ∷ ys) = elim (number_order x y) [
  | inl less ↦ inl (inl less)
  | inr (inr more) ↦ inr (inr (inl more))
  | inr (inl e) ↦ elim (list_order xs ys) [
    | inl less ↦ inl (inr (e, less))
    | inr (inl same) ↦ inr (inl (rw (e, same) refl))
    | inr (inr more) ↦ inr (inr (inr (sym e, more)))
  ]
]

less_told : (x y : ℕ) → nat_lt x y ≡ true ↔ (x < y)
less_told x y = (λ h. ltb-true x y h, λ less. lt-ltb x y less)

precedes_told : (xs ys : List ℕ) → precedes xs ys ≡ true ↔ PrecedesList xs ys
precedes_told [] [] = (λ h. absurd cc, λ p. absurd p)
precedes_told [] (y ∷ ys) = (λ h. tt, λ p. refl)
precedes_told (x ∷ xs) [] = (λ h. absurd cc, λ p. absurd p)
precedes_told (x ∷ xs) (y ∷ ys) =
    let rest = precedes_told xs ys in
    let first = or_told (nat_lt x y) (nat_eq x y && precedes xs ys) in
    let second = and_told (nat_eq x y) (precedes xs ys) in (
      λ h. elim (first.0 h) [
        | inl less ↦ inl ((less_told x y).0 less)
        | inr more ↦ let own = second.0 more in inr (eqb-true x y own.0, rest.0 own.1)
      ],
      λ p. first.1 (elim p [
        | inl less ↦ inl ((less_told x y).1 less)
        | inr more ↦ inr (second.1 (eq-eqb x y more.0, rest.1 more.1))
      ]),
    )

abbrev Ordered : List (List ℕ) → Type 0
Ordered xs = AreBelow PrecedesList lists_asym xs

abbrev IsPutIn : List ℕ → List (List ℕ) → List (List ℕ) → Type 0
IsPutIn x xs ys = Ordered ys × ((s : List ℕ) → Has ys s ↔ Has (x ∷ xs) s)

put_right : (x : List ℕ) (xs : List (List ℕ)) → Ordered xs → IsPutIn x xs (put x xs)
put_right x [] up = ((λ y h. absurd (Has-[] y h), tt), λ s. (λ h. h, λ h. h))
put_right x (y ∷ xs) up = by (precedes x y) refl (precedes y x) refl (put_right x xs up.1)
  where
    behind : precedes x y ≡ false → precedes y x ≡ false → x ≡ y
    behind out back = elim (list_order x y) [
      | inl less ↦ absurd (let both : true ≡ false = sym ((precedes_told x y).1 less) ∙ out in cc)
      | inr (inl e) ↦ e
      | inr (inr more) ↦ absurd (let both : true ≡ false = sym ((precedes_told y x).1 more) ∙ back in cc)
    ]

    by : (b : Bool) → precedes x y ≡ b → (c : Bool) → precedes y x ≡ c → IsPutIn x xs (put x xs) → IsPutIn x (y ∷ xs) (cond b (x ∷ y ∷ xs) (y ∷ cond c (put x xs) xs))
    by true told c other rest =
        let less = (precedes_told x y).0 told in (
          (λ z h. elim (Has-cons y xs z h) [ inl e ↦ subst (PrecedesList x) (sym e) less | inr more ↦ lists-trans x y z less (up.0 z more) ], up),
          λ s. (λ h. h, λ h. h),
        )
    by false told false other rest =
        let e = behind told other in (
          up,
          λ s. (
            λ h. Has-later x (y ∷ xs) s h,
            λ h. elim (Has-cons x (y ∷ xs) s h) [ inl same ↦ subst (Has (y ∷ xs)) (sym (same ∙ e)) (Has-head y xs) | inr more ↦ more ],
          ),
        )
    by false told true other (order, exact) =
        let more = (precedes_told y x).0 other in (
          (λ z h. elim (Has-cons x xs z ((exact z).0 h)) [ inl e ↦ subst (PrecedesList y) (sym e) more | inr own ↦ up.0 z own ], order),
          λ s. (
            λ h. elim (Has-cons y (put x xs) s h) [
              | inl e ↦ Has-later x (y ∷ xs) s (subst (Has (y ∷ xs)) (sym e) (Has-head y xs))
              | inr own ↦ elim (Has-cons x xs s ((exact s).0 own)) [
                | inl e ↦ subst (Has (x ∷ y ∷ xs)) (sym e) (Has-head x (y ∷ xs))
                | inr old ↦ Has-later x (y ∷ xs) s (Has-later y xs s old)
              ]
            ],
            λ h. elim (Has-cons x (y ∷ xs) s h) [
              | inl e ↦ Has-later y (put x xs) s ((exact s).1 (subst (Has (x ∷ xs)) (sym e) (Has-head x xs)))
              | inr own ↦ elim (Has-cons y xs s own) [
                | inl e ↦ subst (Has (y ∷ put x xs)) (sym e) (Has-head y (put x xs))
                | inr old ↦ Has-later y (put x xs) s ((exact s).1 (Has-later x xs s old))
              ]
            ],
          ),
        )

ordered_told : (xs : List (List ℕ)) → Ordered (in_order xs) × ((s : List ℕ) → Has (in_order xs) s ↔ Has xs s)
ordered_told [] = (tt, λ s. (λ h. h, λ h. h))
ordered_told (x ∷ xs) =
    let rest = ordered_told xs in
    let new = put_right x (in_order xs) rest.0 in (
      new.0,
      λ s. (
        λ h. elim (Has-cons x (in_order xs) s ((new.1 s).0 h)) [ inl e ↦ subst (Has (x ∷ xs)) (sym e) (Has-head x xs) | inr more ↦ Has-later x xs s ((rest.1 s).0 more) ],
        λ h. (new.1 s).1 (elim (Has-cons x xs s h) [ inl e ↦ subst (Has (x ∷ in_order xs)) (sym e) (Has-head x (in_order xs)) | inr more ↦ Has-later x (in_order xs) s ((rest.1 s).1 more) ]),
      ),
    )

-- ---- the views of a type

pub Precedes-asym : (f g : Family) → Precedes f g → Precedes g f → ⊥
Precedes-asym (View a s) (View b t) (inl p) (inl q) = omega arith
Precedes-asym (View a s) (View b t) (inl p) (inr q) = let e = q.0 in omega arith
Precedes-asym (View a s) (View b t) (inr p) (inl q) = let e = p.0 in omega arith
Precedes-asym (View a s) (View b t) (inr p) (inr q) = lists_asym s t p.1 q.1
Precedes-asym (View a s) (Across b x p c y q) h k = h
Precedes-asym (View a s) (Parallel b x u c y w) h k = h
Precedes-asym (View a s) (Chain b x p c y z d w q) h k = h
Precedes-asym (Across a x p b y q) g h k = h
Precedes-asym (Parallel a x u b y w) g h k = h
Precedes-asym (Chain a x p b y z c w q) g h k = h

abbrev AreOrdered : List Family → Type 0
AreOrdered fs = AreBelow Precedes Precedes-asym fs

view_of : (a : ℕ) (sets : List (List ℕ)) (f : Family) → Has (map (View a) sets) f → (sites : List ℕ) × (f ≡ View a sites) × Has sets sites
view_of a [] f h = absurd (Has-[] f h)
view_of a (set ∷ sets) f h = elim (Has-cons (View a set) (map (View a) sets) f h) [
  | inl e ↦ (set, e, Has-head set sets)
  | inr more ↦ let rest = view_of a sets f more in (rest.0, rest.1, Has-later set sets rest.0 rest.2)
]

of_view : (a : ℕ) (sets : List (List ℕ)) (sites : List ℕ) → Has sets sites → Has (map (View a) sets) (View a sites)
of_view a [] sites h = absurd (Has-[] sites h)
of_view a (set ∷ sets) sites h = elim (Has-cons set sets sites h) [
  | inl e ↦ subst (λ xs. Has (View a set ∷ map (View a) sets) (View a xs)) (sym e) (Has-head (View a set) (map (View a) sets))
  | inr more ↦ Has-later (View a set) (map (View a) sets) (View a sites) (of_view a sets sites more)
]

views_ordered : (a : ℕ) (sets : List (List ℕ)) → Ordered sets → AreOrdered (map (View a) sets)
views_ordered a [] up = tt
views_ordered a (set ∷ sets) up = (
  λ f h. let own = view_of a sets f h in subst (Precedes (View a set)) (sym own.1) (inr (refl, up.0 own.0 own.2)),
  views_ordered a sets up.1,
)

module _ (model : Model) (valid : IsModel model) where
  views_told : (a : ℕ) → Ordered (view_sets model a) × ((sites : List ℕ) → Has (view_sets model a) sites ↔ IsViewOf model a sites)
  views_told a = by (state_counts model.sig a) refl
    where
      best : List (List ℕ)
      best = filter (is_largest (site_sets model a)) (site_sets model a)

      by : (counts : List ℕ) → state_counts model.sig a ≡ counts → Ordered (cond (is_some_set counts) (in_order best) ([] ∷ [])) × ((sites : List ℕ) → Has (cond (is_some_set counts) (in_order best) ([] ∷ [])) sites ↔ IsViewOf model a sites)
      by [] none = (
        (λ y h. absurd (Has-[] y h), tt),
        λ sites. (
          λ h. elim (Has-cons [] [] sites h) [ inl e ↦ inl (none, e) | inr more ↦ absurd (Has-[] sites more) ],
          λ view. subst (Has ([] ∷ [])) (sym (view_empty model a sites valid none view)) (Has-head [] []),
        ),
      )
      by (c ∷ counts) some =
          let with_sites : state_counts model.sig a ≢ [] = λ none. let both : c ∷ counts ≡ [] = sym some ∙ none in absurd cc in
          let new = ordered_told best in (
            new.0,
            λ sites.
                let told = filter_has (is_largest (site_sets model a)) (site_sets model a) sites in
                let all = sets_told model valid a in (
                  λ h.
                      let own = told.0 ((new.1 sites).0 h) in
                      let largest = (largest_told (site_sets model a) sites).0 own.1 in
                      inr ((all sites).0 own.0, λ others set within. largest others ((all others).1 set) within),
                  λ view. (new.1 sites).1 (told.1 (elim view [
                    | inl none ↦ absurd (with_sites none.0)
                    | inr own ↦ ((all sites).1 own.0, (largest_told (site_sets model a) sites).1 (λ others h within. own.1 others ((all others).0 h) within))
                  ])),
                ),
          )

  -- ---- the views of all types

  append_ordered : (fs gs : List Family) → AreOrdered fs → AreOrdered gs → ((f g : Family) → Has fs f → Has gs g → Precedes f g) → AreOrdered (fs ++ gs)
  append_ordered [] gs up own before = own
  append_ordered (f ∷ fs) gs up own before = (
    λ g h. elim (Has-append fs gs g h) [ inl early ↦ up.0 g early | inr late ↦ before f g (Has-head f fs) late ],
    append_ordered fs gs up.1 own (λ h g early late. before h g (Has-later f fs h early) late),
  )

  abbrev types_from : ℕ → ℕ → List Family
  types_from a n = flat_map (λ a. map (View a) (view_sets model a)) (range_with_len a n)

  types_ordered : (a n : ℕ) → AreOrdered (types_from a n)
  types_ordered a zero = tt
  types_ordered a (suc n) =
      append_ordered (map (View a) (view_sets model a)) (types_from (a + 1) n) (views_ordered a (view_sets model a) (views_told a).0) (types_ordered (a + 1) n)
      (λ f g early late.
      let own = view_of a (view_sets model a) f early in
      let (b, type, more) = (flat_has (λ a. map (View a) (view_sets model a)) (range_with_len (a + 1) n) g).0 late in
      let other = view_of b (view_sets model b) g more in
      let above : a + 1 ≤ b = ((range_has (a + 1) n b).0 type).0 in
      let less : a < b = omega arith in
      subst (λ x. Precedes x g) (sym own.1) (subst (Precedes (View a own.0)) (sym other.1) (inl less)))

  all_told : (f : Family) → Has (all_views model) f ↔ IsPlanned model f
  all_told f = (there, back f)
    where
      there : Has (all_views model) f → IsPlanned model f
      there h =
          let (a, type, more) = (flat_has (λ a. map (View a) (view_sets model a)) (numbers (length model.sig)) f).0 h in
          let view = view_of a (view_sets model a) f more in
          subst (IsPlanned model) (sym view.1) ((numbers_has (length model.sig) a).0 type, ((views_told a).1 view.0).0 view.2)

      back : (g : Family) → IsPlanned model g → Has (all_views model) g
      back (View a sites) (type, view) =
          (flat_has (λ a. map (View a) (view_sets model a)) (numbers (length model.sig)) (View a sites)).1
          (a, (numbers_has (length model.sig) a).1 type, of_view a (view_sets model a) sites (((views_told a).1 sites).1 view))
      back (Across a x p b y q) planned = absurd planned
      back (Parallel a x u b y w) planned = absurd planned
      back (Chain a x p b y z c w q) planned = absurd planned

-- just the planned views, in order, are the plan
pub views_listed : (model : Model) → IsModel model → (families : List Family) → IsViewPlan model families → families ≡ all_views model
views_listed model valid families plan =
    ordered_same Precedes Precedes-asym families (all_views model)
    (AreBelow-numbered Precedes Precedes-asym families plan.ordered)
    (types_ordered model valid 0 (length model.sig))
    (λ f. (λ h. (all_told model valid f).1 ((plan.exact f).0 h), λ h. (plan.exact f).1 ((all_told model valid f).0 h)))
