-- What a list has. std's word `Contains` says the same by the element that an index reads; its laws carry over.
use Rattle.std.proofs.Common.{◌≡◌, ℕ, zero, suc, ◌↔◌, ◌⊎◌, inl, inr, List, [], ◌∷◌, ◌++◌, map, take, refl, ap, sym, ◌∙◌}
use Rattle.std.specs.Prelude.{Some, slice_get}
use Rattle.std.specs.List.{Contains}
use Rattle.std.specs.List.Sorted.{IsPermutation}
use Rattle.std.proofs.lemmas.List.Sorted.{Contains-permutation, IsPermutation-sym}
use Rattle.std.proofs.lemmas.Option.{slice_get_within, get_or_from_slice_get, slice_get-get_or, slice_get-map}
use Rattle.kasa_lists.specs.Lists.{Has}
use Rattle.kasa_lists.proofs.Options.{some_map}
use Rattle.kasa_lists.proofs.Elements.{pushed_or, slice_get-of_take}

pub Has-[] : {X : Type 0} (x : X) → Has [] x → ⊥
Has-[] x (k, e) = cc

pub Has-head : {X : Type 0} (x : X) (xs : List X) → Has (x ∷ xs) x
Has-head x xs = (zero, refl)

pub Has-later : {X : Type 0} (x : X) (xs : List X) (y : X) → Has xs y → Has (x ∷ xs) y
Has-later x xs y (k, e) = (suc k, e)

-- the first element, or one of the others
pub Has-cons : {X : Type 0} (x : X) (xs : List X) (y : X) → Has (x ∷ xs) y → (y ≡ x) ⊎ Has xs y
Has-cons x xs y (zero, e) = inl cc
Has-cons x xs y (suc k, e) = inr (k, e)

-- ---- two lists end to end

pub Has-append : {X : Type 0} (xs ys : List X) (x : X) → Has (xs ++ ys) x → Has xs x ⊎ Has ys x
Has-append [] ys x h = inr h
Has-append (y ∷ xs) ys x (zero, at) = inl (0, at)
Has-append (y ∷ xs) ys x (suc k, at) = elim (Has-append xs ys x (k, at)) [ inl h ↦ inl (suc h.0, h.1) | inr h ↦ inr h ]

pub Has-left : {X : Type 0} (xs ys : List X) (x : X) → Has xs x → Has (xs ++ ys) x
Has-left [] ys x h = absurd (Has-[] x h)
Has-left (y ∷ xs) ys x (zero, at) = (0, at)
Has-left (y ∷ xs) ys x (suc k, at) = let h = Has-left xs ys x (k, at) in (suc h.0, h.1)

pub Has-right : {X : Type 0} (xs ys : List X) (x : X) → Has ys x → Has (xs ++ ys) x
Has-right [] ys x h = h
Has-right (y ∷ xs) ys x h = let r = Has-right xs ys x h in (suc r.0, r.1)

-- one of the elements before, or the last
pub Has-push : {X : Type 0} (xs : List X) (y x : X) → Has (xs ++ y ∷ []) x → Has xs x ⊎ (x ≡ y)
Has-push xs y x has = elim (pushed_or xs y x has.0 has.1) [ inl old ↦ inl (has.0, old) | inr new ↦ inr new ]

pub Has-last : {X : Type 0} (xs : List X) (x y : X) → y ≡ x → Has (xs ++ x ∷ []) y
Has-last xs x y e = Has-right xs (x ∷ []) y (zero, ap Some (sym e))

pub Has-take : {X : Type 0} (xs : List X) (n : ℕ) (x : X) → Has (take n xs) x → Has xs x
Has-take xs n x (k, at) = (k, (slice_get-of_take xs n k x at).1)

-- ---- maps

pub Has-map : {X Y : Type 0} (f : X → Y) (xs : List X) (x : X) → Has xs x → Has (map f xs) (f x)
Has-map f xs x (k, at) = (k, slice_get-map f xs k ∙ rw at refl)

pub Has-of_map : {X Y : Type 0} (f : X → Y) (xs : List X) (y : Y) → Has (map f xs) y → (x : X) × Has xs x × (f x ≡ y)
Has-of_map f xs y (k, at) = let from = some_map f (slice_get xs k) y (sym (slice_get-map f xs k) ∙ at) in (from.0, (k, from.1), from.2)

-- ---- permutations

pub Has-contains : {X : Type 0} (xs : List X) (x : X) → Has xs x → Contains xs x
Has-contains xs x h = (h.0, slice_get_within xs h.0 x h.1, get_or_from_slice_get xs h.0 x x h.1)

pub Contains-has : {X : Type 0} (xs : List X) (x : X) → Contains xs x → Has xs x
Contains-has xs x h = (h.0, slice_get-get_or xs h.0 x h.1 ∙ ap Some h.2)

pub Has-moved : {X : Type 0} (xs ys : List X) → IsPermutation xs ys → (x : X) → Has ys x ↔ Has xs x
Has-moved xs ys same x = (
  λ h. Contains-has xs x (Contains-permutation _ _ x (IsPermutation-sym _ _ same) (Has-contains ys x h)),
  λ h. Contains-has ys x (Contains-permutation _ _ x same (Has-contains xs x h)),
)
