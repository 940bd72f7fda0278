-- Lists of different elements.
use Rattle.std.proofs.Common.{◌≡◌, ◌≢◌, ℕ, zero, suc, ◌≤◌, ◌⊎◌, inl, inr, List, [], ◌∷◌, ◌++◌, length, refl, ap, sym, ◌∙◌, arith}
use Rattle.std.specs.Prelude.{Some, slice_get}
use Rattle.kasa_lists.specs.Lists.{Has, AllDifferent}
use Rattle.kasa_lists.proofs.Elements.{at_push}

pub AllDifferent-[] : {X : Type 0} → AllDifferent {X = X} []
AllDifferent-[] i j y p q = absurd cc

pub AllDifferent-tail : {X : Type 0} (x : X) (xs : List X) → AllDifferent (x ∷ xs) → AllDifferent xs
AllDifferent-tail x xs different i j y p q = let e = different (suc i) (suc j) y p q in omega arith

pub AllDifferent-head : {X : Type 0} (x : X) (xs : List X) (i : ℕ) → AllDifferent (x ∷ xs) → slice_get xs i ≢ Some x
AllDifferent-head x xs i different e = let h = different zero (suc i) x refl e in omega arith

pub AllDifferent-cons : {X : Type 0} (x : X) (xs : List X) → ((i : ℕ) → slice_get xs i ≢ Some x) → AllDifferent xs → AllDifferent (x ∷ xs)
AllDifferent-cons x xs out different zero zero y p q = refl
AllDifferent-cons x xs out different zero (suc j) y p q = absurd (out j (let same : x ≡ y = cc in rw same q))
AllDifferent-cons x xs out different (suc i) zero y p q = absurd (out i (let same : x ≡ y = cc in rw same p))
AllDifferent-cons x xs out different (suc i) (suc j) y p q = ap suc (different i j y p q)

pub AllDifferent-push : {X : Type 0} (xs : List X) (y : X) → AllDifferent xs → ¬ Has xs y → AllDifferent (xs ++ y ∷ [])
AllDifferent-push xs y different absent i j x p q = by (at_push xs y x i p) (at_push xs y x j q)
  where
    by : (slice_get xs i ≡ Some x) ⊎ ((i ≡ length xs) × (y ≡ x)) → (slice_get xs j ≡ Some x) ⊎ ((j ≡ length xs) × (y ≡ x)) → i ≡ j
    by (inl a) (inl b) = different i j x a b
    by (inl a) (inr b) = absurd (absent (i, rw (b.1) a))
    by (inr a) (inl b) = absurd (absent (j, rw (a.1) b))
    by (inr a) (inr b) = a.0 ∙ sym b.0

-- ---- different elements among those of another list are as many at most

abbrev without : {X : Type 0} → List X → ℕ → List X
without [] i = []
without (x ∷ xs) zero = xs
without (x ∷ xs) (suc i) = x ∷ without xs i

length-without : {X : Type 0} (xs : List X) (i : ℕ) (x : X) → slice_get xs i ≡ Some x → length xs ≡ suc (length (without xs i))
length-without [] i x at = absurd cc
length-without (z ∷ xs) zero x at = refl
length-without (z ∷ xs) (suc i) x at = ap suc (length-without xs i x at)

Has-without : {X : Type 0} (xs : List X) (i j : ℕ) (x : X) → i ≢ j → slice_get xs j ≡ Some x → Has (without xs i) x
Has-without [] i j x ne at = absurd cc
Has-without (z ∷ xs) zero zero x ne at = absurd (ne refl)
Has-without (z ∷ xs) zero (suc j) x ne at = (j, at)
Has-without (z ∷ xs) (suc i) zero x ne at = (0, at)
Has-without (z ∷ xs) (suc i) (suc j) x ne at = let h = Has-without xs i j x (λ e. ne (ap suc e)) at in (suc h.0, h.1)

pub length-within : {X : Type 0} (xs ys : List X) → AllDifferent xs → ((x : X) → Has xs x → Has ys x) → length xs ≤ length ys
length-within [] ys different within = omega arith
length-within (x ∷ xs) ys different within =
    let at = within x (0, refl) in
    let rest = length-within xs (without ys at.0) (AllDifferent-tail x xs different) (λ y has.
    let there = within y (suc has.0, has.1) in
    Has-without ys at.0 there.0 y (λ e. AllDifferent-head x xs has.0 different (let first = at.1 in let second = there.1 in let third = has.1 in cc)) there.1) in
    let less = length-without ys at.0 x at.1 in
    omega arith
