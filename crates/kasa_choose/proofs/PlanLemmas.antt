-- The steps of the plan of views: which views a loop has added, and that they are those that are planned.
use Rattle.std.proofs.Common.{◌≡◌, ◌≢◌, ℕ, ◌+◌, ◌<◌, ◌≤◌, ◌⊎◌, inl, inr, ◌↔◌, List, [], ◌∷◌, length, refl, ap, sym, subst, ◌∙◌, arith, Some, slice_get, Vec}
use Rattle.std.specs.Prelude.{Result, Ok, Err, IfOk}
use Rattle.std.specs.Global.{Global}
use Rattle.std.specs.BTreeSet.{insert_key}
use Rattle.std.proofs.lemmas.Option.{slice_get_within}
use Rattle.kasa_graph.specs.Lists.{Has}
use Rattle.kasa_graph.specs.Signature.{state_counts, HasSite}
use Rattle.kasa_rules.specs.declared.model.Model.{Model}
use Rattle.kasa_rules.specs.Reached.{IsModel}
use Rattle.kasa_families.specs.declared.family.Family.{Family}
use Rattle.kasa_families.specs.declared.family.Family.TheVariants.{View, Across, Parallel, Chain}
use Rattle.kasa_choose.specs.ViewPlan.{IsSiteSet, IsViewOf, IsPlanned, AreInOrder, IsViewPlan}
use Rattle.kasa_choose.specs.ViewSets.{IsInNoLarger, IsViewFamily, view_family, view_families}
use Rattle.kasa_choose.proofs.PlanLists.{less_or, same_at, Has-head}
use Rattle.kasa_choose.proofs.SiteSetLemmas.{set_within}
use Rattle.kasa_choose.proofs.ViewOrder.{view_cmp, has_inserted, inserted_has_old, inserted_has_new}

-- both of what holds where a call succeeds
pub IfOk-both : {T E : Type 0} (r : Result T E) (P Q : T → Type 0) → IfOk r P → IfOk r Q → IfOk r (λ x. P x × Q x)
IfOk-both (Ok x) P Q p q = (p, q)
IfOk-both (Err e) P Q p q = tt

pub empty_list : {X : Type 0} (xs : List X) → length xs ≡ 0 → xs ≡ []
empty_list [] e = refl
empty_list (x ∷ xs) e = absurd (omega arith)

-- ---- the largest of the sets before a number, as a loop finds them

-- a view of the type that is one of the first n sets
abbrev pub IsAdded : List (List ℕ) → ℕ → ℕ → Family → Type 0
IsAdded sets n a f = (k : ℕ) × (sites : List ℕ) × (k < n) × (slice_get sets k ≡ Some sites) × IsInNoLarger sets sites × (f ≡ View a sites)

-- the views have come to be those before and these
abbrev pub HasAdded : List (List ℕ) → ℕ → ℕ → List Family → List Family → Type 0
HasAdded sets n a old new = (f : Family) → Has new f ↔ (Has old f ⊎ IsAdded sets n a f)

pub has_added_more : (sets : List (List ℕ)) (n a : ℕ) (old : List Family) (vs : List (ℕ × Vec ℕ Global)) (v : ℕ × Vec ℕ Global) (sites : List ℕ) → slice_get sets n ≡ Some sites → IsInNoLarger sets sites → view_family v ≡ View a sites →
    HasAdded sets n a old (view_families vs) → HasAdded sets (n + 1) a old (view_families (insert_key view_cmp vs v))
has_added_more sets n a old vs v sites at largest same has f = (there, back)
  where
    there : Has (view_families (insert_key view_cmp vs v)) f → Has old f ⊎ IsAdded sets (n + 1) a f
    there h = elim (has_inserted vs v f h) [
      | inl more ↦ elim ((has f).0 more) [
        | inl before ↦ inl before
        | inr added ↦ let less : added.0 < n = added.2 in inr (added.0, added.1, omega arith, added.3, added.4, added.5)
      ]
      | inr e ↦ inr (n, sites, omega arith, at, largest, e ∙ same)
    ]

    by : (k : ℕ) (own : List ℕ) → (k < n) ⊎ (k ≡ n) → slice_get sets k ≡ Some own → IsInNoLarger sets own → f ≡ View a own → Has (view_families (insert_key view_cmp vs v)) f
    by k own (inl less) at_k own_largest e = inserted_has_old vs v f ((has f).1 (inr (k, own, less, at_k, own_largest, e)))
    by k own (inr here) at_k own_largest e =
        let one : own ≡ sites = same_at sets n own sites (rw here at at_k) at in
        let this : view_family v ≡ f = same ∙ sym (e ∙ ap (λ xs. View a xs) one) in
        subst (Has (view_families (insert_key view_cmp vs v))) this (inserted_has_new vs v)

    back : Has old f ⊎ IsAdded sets (n + 1) a f → Has (view_families (insert_key view_cmp vs v)) f
    back (inl before) = inserted_has_old vs v f ((has f).1 (inl before))
    back (inr (k, own, less, at_k, own_largest, e)) = by k own (less_or k n less) at_k own_largest e

pub has_added_skip : (sets : List (List ℕ)) (n a : ℕ) (old new : List Family) (sites : List ℕ) → slice_get sets n ≡ Some sites → (IsInNoLarger sets sites → ⊥) → HasAdded sets n a old new → HasAdded sets (n + 1) a old new
has_added_skip sets n a old new sites at out has f = (there, back)
  where
    there : Has new f → Has old f ⊎ IsAdded sets (n + 1) a f
    there h = elim ((has f).0 h) [
      | inl before ↦ inl before
      | inr added ↦ let less : added.0 < n = added.2 in inr (added.0, added.1, omega arith, added.3, added.4, added.5)
    ]

    by : (k : ℕ) (own : List ℕ) → (k < n) ⊎ (k ≡ n) → slice_get sets k ≡ Some own → IsInNoLarger sets own → f ≡ View a own → Has new f
    by k own (inl less) at_k own_largest e = (has f).1 (inr (k, own, less, at_k, own_largest, e))
    by k own (inr here) at_k own_largest e =
        let one : own ≡ sites = same_at sets n own sites (rw here at at_k) at in
        absurd (out (subst (IsInNoLarger sets) one own_largest))

    back : Has old f ⊎ IsAdded sets (n + 1) a f → Has new f
    back (inl before) = (has f).1 (inl before)
    back (inr (k, own, less, at_k, own_largest, e)) = by k own (less_or k n less) at_k own_largest e

-- after all of them
pub has_added_all : (sets : List (List ℕ)) (n a : ℕ) (old new : List Family) → length sets ≤ n → HasAdded sets n a old new → (f : Family) → Has new f ↔ (Has old f ⊎ ((sites : List ℕ) × (f ≡ View a sites) × Has sets sites × IsInNoLarger sets sites))
has_added_all sets n a old new all has f = (there, back)
  where
    there : Has new f → Has old f ⊎ ((sites : List ℕ) × (f ≡ View a sites) × Has sets sites × IsInNoLarger sets sites)
    there h = elim ((has f).0 h) [ inl before ↦ inl before | inr added ↦ inr (added.1, added.5, (added.0, added.3), added.4) ]

    back : Has old f ⊎ ((sites : List ℕ) × (f ≡ View a sites) × Has sets sites × IsInNoLarger sets sites) → Has new f
    back (inl before) = (has f).1 (inl before)
    back (inr (sites, e, own, largest)) =
        let within : own.0 < length sets = slice_get_within sets own.0 sites own.1 in
        (has f).1 (inr (own.0, sites, omega arith, own.1, largest, e))

-- ---- which views are planned

-- the views of a type with sites are the largest of its sets
pub view_largest : (model : Model) (a : ℕ) (sets : List (List ℕ)) (sites : List ℕ) → ((own : List ℕ) → Has sets own ↔ IsSiteSet model a own) → state_counts model.sig a ≢ [] → IsViewOf model a sites → Has sets sites × IsInNoLarger sets sites
view_largest model a sets sites has with_sites (inl none) = absurd (with_sites none.0)
view_largest model a sets sites has with_sites (inr (set, largest)) = ((has sites).1 set, λ others own within. largest others ((has others).0 own) within)

pub largest_view : (model : Model) (a : ℕ) (sets : List (List ℕ)) (sites : List ℕ) → ((own : List ℕ) → Has sets own ↔ IsSiteSet model a own) → Has sets sites → IsInNoLarger sets sites → IsViewOf model a sites
largest_view model a sets sites has own largest = inr ((has sites).0 own, λ others set within. largest others ((has others).1 set) within)

-- a type without sites has one view, without sites
pub view_empty : (model : Model) (a : ℕ) (sites : List ℕ) → IsModel model → state_counts model.sig a ≡ [] → IsViewOf model a sites → sites ≡ []
view_empty model a sites is none (inl view) = view.1
view_empty model a [] is none (inr view) = refl
view_empty model a (s ∷ sites) is none (inr (set, largest)) =
    let has : HasSite model.sig a s = set_within model a (s ∷ sites) s is set (Has-head s sites) in
    let less : s < 0 = rw none at has in
    absurd (omega arith)

-- the views of a type, added to those before
abbrev pub AddsViews : Model → ℕ → List Family → List Family → Type 0
AddsViews model a old new = (f : Family) → Has new f ↔ (Has old f ⊎ IsViewFamily model a f)

pub adds_largest : (model : Model) (a : ℕ) (sets : List (List ℕ)) (old new : List Family) → ((own : List ℕ) → Has sets own ↔ IsSiteSet model a own) → state_counts model.sig a ≢ [] →
    ((f : Family) → Has new f ↔ (Has old f ⊎ ((sites : List ℕ) × (f ≡ View a sites) × Has sets sites × IsInNoLarger sets sites))) → AddsViews model a old new
adds_largest model a sets old new exact with_sites has f = (there, back)
  where
    there : Has new f → Has old f ⊎ IsViewFamily model a f
    there h = elim ((has f).0 h) [ inl before ↦ inl before | inr added ↦ inr (added.0, added.1, largest_view model a sets added.0 exact added.2 added.3) ]

    back : Has old f ⊎ IsViewFamily model a f → Has new f
    back (inl before) = (has f).1 (inl before)
    back (inr (sites, e, view)) = let largest = view_largest model a sets sites exact with_sites view in (has f).1 (inr (sites, e, largest.0, largest.1))

pub adds_empty : (model : Model) (a : ℕ) (vs : List (ℕ × Vec ℕ Global)) (v : ℕ × Vec ℕ Global) → IsModel model → state_counts model.sig a ≡ [] → view_family v ≡ View a [] → AddsViews model a (view_families vs) (view_families (insert_key view_cmp vs v))
adds_empty model a vs v is none same f = (there, back)
  where
    there : Has (view_families (insert_key view_cmp vs v)) f → Has (view_families vs) f ⊎ IsViewFamily model a f
    there h = elim (has_inserted vs v f h) [ inl before ↦ inl before | inr e ↦ inr ([], e ∙ same, inl (none, refl)) ]

    back : Has (view_families vs) f ⊎ IsViewFamily model a f → Has (view_families (insert_key view_cmp vs v)) f
    back (inl before) = inserted_has_old vs v f before
    back (inr (sites, e, view)) =
        let this : view_family v ≡ f = same ∙ sym (e ∙ ap (λ xs. View a xs) (view_empty model a sites is none view)) in
        subst (Has (view_families (insert_key view_cmp vs v))) this (inserted_has_new vs v)

-- ---- the views of the types before a number, as a loop finds them

abbrev pub IsPlannedBefore : Model → ℕ → Family → Type 0
IsPlannedBefore model n f = (a : ℕ) × (a < n) × IsViewFamily model a f

pub planned_more : (model : Model) (n : ℕ) (old new : List Family) → ((f : Family) → Has old f ↔ IsPlannedBefore model n f) → AddsViews model n old new →
    (f : Family) → Has new f ↔ IsPlannedBefore model (n + 1) f
planned_more model n old new has adds f = (there, back)
  where
    there : Has new f → IsPlannedBefore model (n + 1) f
    there h = elim ((adds f).0 h) [
      | inl before ↦ let planned = (has f).0 before in let less : planned.0 < n = planned.1 in (planned.0, omega arith, planned.2)
      | inr view ↦ (n, omega arith, view)
    ]

    by : (a : ℕ) → (a < n) ⊎ (a ≡ n) → IsViewFamily model a f → Has new f
    by a (inl less) view = (adds f).1 (inl ((has f).1 (a, less, view)))
    by a (inr e) view = (adds f).1 (inr (subst (λ b. IsViewFamily model b f) e view))

    back : IsPlannedBefore model (n + 1) f → Has new f
    back (a, less, view) = by a (less_or a n less) view

planned_all : (model : Model) (n : ℕ) (f : Family) → n ≡ length model.sig → IsPlannedBefore model n f → IsPlanned model f
planned_all model n f e (a, less, (sites, is, view)) = let here : a < length model.sig = omega arith in subst (IsPlanned model) (sym is) (here, view)

all_planned : (model : Model) (n : ℕ) (f : Family) → n ≡ length model.sig → IsPlanned model f → IsPlannedBefore model n f
all_planned model n (View a sites) e (less, view) = (a, omega arith, (sites, refl, view))
all_planned model n (Across a x p b y q) e planned = absurd planned
all_planned model n (Parallel a x u b y w) e planned = absurd planned
all_planned model n (Chain a x p b y z c w q) e planned = absurd planned

-- the views of all types in order are the plan
pub IsViewPlan-all : (model : Model) (n : ℕ) (views families : List Family) → n ≡ length model.sig → ((f : Family) → Has views f ↔ IsPlannedBefore model n f) → families ≡ views → AreInOrder families → IsViewPlan model families
IsViewPlan-all model n views families e has same ordered = record {
  ordered = ordered;
  exact = λ f. (λ h. planned_all model n f e ((has f).0 (subst (λ fs. Has fs f) same h)), λ planned. subst (λ fs. Has fs f) (sym same) ((has f).1 (all_planned model n f e planned)));
}
