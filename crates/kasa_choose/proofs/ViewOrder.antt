-- Views in a sorted set: their order is that of the plan, and what an insertion adds.
use Rattle.std.proofs.Common.{◌≡◌, ◌≢◌, ℕ, ◌<◌, ◌⊎◌, inl, inr, ◌↔◌, List, [], ◌∷◌, refl, ap, sym, subst, ◌∙◌, slice_get, Vec}
use Rattle.std.specs.Global.{Global}
use Rattle.std.specs.declared.cmp.Ordering.{Ordering}
use Rattle.std.specs.declared.cmp.Ordering.TheVariants.{Less, Equal, Greater}
use Rattle.std.specs.Ordering.{nat_cmp, ordering_then}
use Rattle.std.specs.Cmp.Lexicographic.{slice_cmp}
use Rattle.std.specs.BTreeSet.{insert_key}
use Rattle.std.specs.List.Sorted.{IsStrictlySortedBy}
use Rattle.std.proofs.lemmas.Cmp.{ranked}
use Rattle.std.proofs.lemmas.Map.Lookups.{exact_unsigned, exact_bytes}
use Rattle.std.proofs.lemmas.Map.Keys.{Less-from_sorted}
use Rattle.std.proofs.lemmas.Option.{slice_get-map, slice_get_within, get_or_from_slice_get}
use Rattle.kasa_graph.specs.Lists.{Has}
use Rattle.kasa_graph.proofs.ListLemmas.{some_map}
use Rattle.kasa_families.specs.declared.family.Family.{Family}
use Rattle.kasa_families.specs.declared.family.Family.TheVariants.{View}
use Rattle.kasa_choose.specs.ViewPlan.{PrecedesList, Precedes, AreInOrder}
use Rattle.kasa_choose.specs.ViewSets.{site_list, site_lists, view_family, view_families}
use Rattle.kasa_choose.proofs.InsertedKeys as keys

-- how a sorted set compares views
abbrev pub view_cmp : ℕ × Vec ℕ Global → ℕ × Vec ℕ Global → Ordering
view_cmp v w = ordering_then (nat_cmp v.0 w.0) (slice_cmp nat_cmp v.1.items w.1.items)

-- ---- what a comparison says

then_equal : (a b : Ordering) → ordering_then a b ≡ Equal → (a ≡ Equal) × (b ≡ Equal)
then_equal Less b e = absurd cc
then_equal Equal b e = (refl, e)
then_equal Greater b e = absurd cc

then_less : (a b : Ordering) → ordering_then a b ≡ Less → (a ≡ Less) ⊎ ((a ≡ Equal) × (b ≡ Less))
then_less Less b e = inl refl
then_less Equal b e = inr (refl, e)
then_less Greater b e = absurd cc

equal_views : (v w : ℕ × Vec ℕ Global) → view_cmp v w ≡ Equal → view_family v ≡ view_family w
equal_views v w e =
    let both = then_equal (nat_cmp v.0 w.0) (slice_cmp nat_cmp v.1.items w.1.items) e in
    let types : v.0 ≡ w.0 = exact_unsigned v.0 w.0 both.0 in
    let sites : v.1.items ≡ w.1.items = exact_bytes v.1.items w.1.items both.1 in
    ap (λ a. View a v.1.items) types ∙ ap (λ xs. View w.0 xs) sites

less_number : (x y : ℕ) → nat_cmp x y ≡ Less → x < y
less_number x y e = ranked x y Less (sym e)

less_lists : (xs ys : List ℕ) → slice_cmp nat_cmp xs ys ≡ Less → PrecedesList xs ys
less_lists [] [] e = absurd cc
less_lists [] (y ∷ ys) e = tt
less_lists (x ∷ xs) [] e = absurd cc
less_lists (x ∷ xs) (y ∷ ys) e = elim (then_less (nat_cmp x y) (slice_cmp nat_cmp xs ys) e) [
  | inl first ↦ inl (less_number x y first)
  | inr rest ↦ inr (exact_unsigned x y rest.0, less_lists xs ys rest.1)
]

less_views : (v w : ℕ × Vec ℕ Global) → view_cmp v w ≡ Less → Precedes (view_family v) (view_family w)
less_views v w e = elim (then_less (nat_cmp v.0 w.0) (slice_cmp nat_cmp v.1.items w.1.items) e) [
  | inl first ↦ inl (less_number v.0 w.0 first)
  | inr rest ↦ inr (exact_unsigned v.0 w.0 rest.0, less_lists v.1.items w.1.items rest.1)
]

-- the views of a sorted set stand in the order of the plan
pub ordered_views : (vs : List (ℕ × Vec ℕ Global)) → IsStrictlySortedBy view_cmp vs → AreInOrder (view_families vs)
ordered_views vs sorted i j f g less at_i at_j =
    let first = some_map view_family (slice_get vs i) f (sym (slice_get-map view_family vs i) ∙ at_i) in
    let second = some_map view_family (slice_get vs j) g (sym (slice_get-map view_family vs j) ∙ at_j) in
    let told = Less-from_sorted view_cmp vs i j first.0 sorted less (slice_get_within vs j second.0 second.1) in
    let here = rw (get_or_from_slice_get vs i first.0 first.0 first.1, get_or_from_slice_get vs j second.0 first.0 second.1) at told in
    subst (λ h. Precedes h g) first.2 (subst (Precedes (view_family first.0)) second.2 (less_views first.0 second.0 here))

-- ---- what an insertion adds

pub has_inserted : (vs : List (ℕ × Vec ℕ Global)) (v : ℕ × Vec ℕ Global) (f : Family) → Has (view_families (insert_key view_cmp vs v)) f → Has (view_families vs) f ⊎ (f ≡ view_family v)
has_inserted vs v f h = keys.has_inserted view_cmp view_family vs v f h

pub inserted_has_old : (vs : List (ℕ × Vec ℕ Global)) (v : ℕ × Vec ℕ Global) (f : Family) → Has (view_families vs) f → Has (view_families (insert_key view_cmp vs v)) f
inserted_has_old vs v f h = keys.inserted_has_old view_cmp view_family vs v f h

pub inserted_has_new : (vs : List (ℕ × Vec ℕ Global)) (v : ℕ × Vec ℕ Global) → Has (view_families (insert_key view_cmp vs v)) (view_family v)
inserted_has_new vs v = keys.inserted_has_new view_cmp view_family equal_views vs v

-- ---- the same of sets of sites

abbrev pub site_list_cmp : Vec ℕ Global → Vec ℕ Global → Ordering
site_list_cmp v w = slice_cmp nat_cmp v.items w.items

-- the sets have come to be those before and this one, which isn't empty
pub adds_set : (vs : List (Vec ℕ Global)) (v : Vec ℕ Global) (sites : List ℕ) → v.items ≡ sites → sites ≢ [] → (set : List ℕ) → Has (site_lists (insert_key site_list_cmp vs v)) set ↔ (Has (site_lists vs) set ⊎ ((set ≡ sites) × (set ≢ [])))
adds_set vs v sites e some set = (there, back)
  where
    there : Has (site_lists (insert_key site_list_cmp vs v)) set → Has (site_lists vs) set ⊎ ((set ≡ sites) × (set ≢ []))
    there h = elim (keys.has_inserted site_list_cmp site_list vs v set h) [ inl old ↦ inl old | inr same ↦ inr (same ∙ e, λ none. some (sym (same ∙ e) ∙ none)) ]

    back : Has (site_lists vs) set ⊎ ((set ≡ sites) × (set ≢ [])) → Has (site_lists (insert_key site_list_cmp vs v)) set
    back (inl old) = keys.inserted_has_old site_list_cmp site_list vs v set old
    back (inr (same, own)) = subst (Has (site_lists (insert_key site_list_cmp vs v))) (e ∙ sym same) (keys.inserted_has_new site_list_cmp site_list (λ v w. exact_bytes v.items w.items) vs v)
