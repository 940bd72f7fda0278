-- What an insertion into a sorted set adds, where its keys are seen through a map.
use Rattle.std.proofs.Common.{◌≡◌, ℕ, zero, ◌⊎◌, inl, inr, List, [], ◌∷◌, map, refl, ap, sym, ◌∙◌, Some, slice_get}
use Rattle.std.specs.Prelude.{option_map}
use Rattle.std.specs.declared.cmp.Ordering.{Ordering}
use Rattle.std.specs.declared.cmp.Ordering.TheVariants.{Less, Equal, Greater}
use Rattle.std.specs.Ordering.{match_ordering}
use Rattle.std.specs.BTreeSet.{insert_key}
use Rattle.std.proofs.lemmas.Option.{slice_get-map}
use Rattle.kasa_graph.specs.Lists.{Has}
use Rattle.kasa_graph.proofs.ListLemmas.{some_map}
use Rattle.kasa_choose.proofs.PlanLists.{Has-[], Has-head, Has-later, Has-cons}

-- what is seen of the keys after a comparison
abbrev inserted : {K Y : Type 0} → (K → Y) → Ordering → List K → K → K → List K → List Y
inserted f o vs v w more = map f (match_ordering o (v ∷ w ∷ vs) (w ∷ vs) (w ∷ more))

inserted_at : {K Y : Type 0} (f : K → Y) (o : Ordering) (vs : List K) (v w : K) (more : List K) (y : Y) →
    (Has (map f more) y → Has (map f vs) y ⊎ (y ≡ f v)) → Has (inserted f o vs v w more) y → Has (map f (w ∷ vs)) y ⊎ (y ≡ f v)
inserted_at f Less vs v w more y later h = elim (Has-cons (f v) (map f (w ∷ vs)) y h) [ inl e ↦ inr e | inr old ↦ inl old ]
inserted_at f Equal vs v w more y later h = inl h
inserted_at f Greater vs v w more y later h = elim (Has-cons (f w) (map f more) y h) [
  | inl e ↦ let first : Has (map f (w ∷ vs)) y = (zero, ap Some (sym e)) in inl first
  | inr rest ↦ elim (later rest) [ inl old ↦ inl (Has-later (f w) (map f vs) y old) | inr e ↦ inr e ]
]

pub has_inserted : {K Y : Type 0} (cmp : K → K → Ordering) (f : K → Y) (vs : List K) (v : K) (y : Y) → Has (map f (insert_key cmp vs v)) y → Has (map f vs) y ⊎ (y ≡ f v)
has_inserted cmp f [] v y h = elim (Has-cons (f v) [] y h) [ inl e ↦ inr e | inr none ↦ absurd (Has-[] y none) ]
has_inserted cmp f (w ∷ vs) v y h = inserted_at f (cmp v w) vs v w (insert_key cmp vs v) y (has_inserted cmp f vs v y) h

old_at : {K Y : Type 0} (f : K → Y) (o : Ordering) (vs : List K) (v w : K) (more : List K) (y : Y) →
    (Has (map f vs) y → Has (map f more) y) → Has (map f (w ∷ vs)) y → Has (inserted f o vs v w more) y
old_at f Less vs v w more y later h = Has-later (f v) (map f (w ∷ vs)) y h
old_at f Equal vs v w more y later h = h
old_at f Greater vs v w more y later h = elim (Has-cons (f w) (map f vs) y h) [
  | inl e ↦ let first : Has (map f (w ∷ more)) y = (zero, ap Some (sym e)) in first
  | inr rest ↦ Has-later (f w) (map f more) y (later rest)
]

pub inserted_has_old : {K Y : Type 0} (cmp : K → K → Ordering) (f : K → Y) (vs : List K) (v : K) (y : Y) → Has (map f vs) y → Has (map f (insert_key cmp vs v)) y
inserted_has_old cmp f [] v y h = absurd (Has-[] y h)
inserted_has_old cmp f (w ∷ vs) v y h = old_at f (cmp v w) vs v w (insert_key cmp vs v) y (inserted_has_old cmp f vs v y) h

new_at : {K Y : Type 0} (f : K → Y) (o : Ordering) (vs : List K) (v w : K) (more : List K) → (o ≡ Equal → f v ≡ f w) → Has (map f more) (f v) → Has (inserted f o vs v w more) (f v)
new_at f Less vs v w more same later = Has-head (f v) (map f (w ∷ vs))
new_at f Equal vs v w more same later = let first : Has (map f (w ∷ vs)) (f v) = (zero, ap Some (sym (same refl))) in first
new_at f Greater vs v w more same later = Has-later (f w) (map f more) (f v) later

-- the new key is seen, where equal keys are seen as the same
pub inserted_has_new : {K Y : Type 0} (cmp : K → K → Ordering) (f : K → Y) → ((v w : K) → cmp v w ≡ Equal → f v ≡ f w) → (vs : List K) (v : K) → Has (map f (insert_key cmp vs v)) (f v)
inserted_has_new cmp f same [] v = Has-head (f v) []
inserted_has_new cmp f same (w ∷ vs) v = new_at f (cmp v w) vs v w (insert_key cmp vs v) (same v w) (inserted_has_new cmp f same vs v)

-- what an iterator gives is what the set has
pub map-given : {K Y : Type 0} (f : K → Y) (vs : List K) → map f (map (λ v. v) vs) ≡ map f vs
map-given f [] = refl
map-given f (v ∷ vs) = ap (λ ys. f v ∷ ys) (map-given f vs)

-- ---- elements seen through a map

pub has_map : {K Y : Type 0} (f : K → Y) (xs : List K) (k : ℕ) (x : K) → slice_get xs k ≡ Some x → Has (map f xs) (f x)
has_map f xs k x at = (k, slice_get-map f xs k ∙ ap (option_map f) at)

pub has_from : {K Y : Type 0} (f : K → Y) (xs : List K) (y : Y) → Has (map f xs) y → (x : K) × Has xs x × (f x ≡ y)
has_from f xs y (k, at) = let x = some_map f (slice_get xs k) y (sym (slice_get-map f xs k) ∙ at) in (x.0, (k, x.1), x.2)
