-- Lists of one length, whose elements are equal one by one.
use Rattle.std.specs.Prelude.{◌≡◌, ℕ, zero, suc, ◌+◌, ◌<◌, ◌≤◌, ◌⊎◌, Bool, true, false, ◌&&◌, List, [], ◌∷◌, length, Some, slice_get}
use Rattle.std.specs.Cmp.Lexicographic.{pointwise}
use Rattle.std.proofs.Common.{◌∙◌, sym, arith, refl, inl, inr}
use Rattle.std.proofs.lemmas.Option.{slice_get_within}
use Rattle.kasa_lists.proofs.Numbers.{below_or}
use Rattle.kasa_lists.proofs.Elements.{some_at}

never : (b : Bool) → (b && false) ≡ false
never true = refl
never false = refl

module _ {A : Type 0} (E : A → A → Bool) where
  -- a test of the elements in one place
  abbrev pub TellsAt : List A → List A → ℕ → Bool → Type 0
  TellsAt xs ys n told = (x y : A) → slice_get xs n ≡ Some x → slice_get ys n ≡ Some y → told ≡ E x y

  -- the elements before a place are equal
  abbrev pub SameBelow : List A → List A → ℕ → Type 0
  SameBelow xs ys n = (k : ℕ) → k < n → TellsAt xs ys k true

  pub SameBelow-suc : (xs ys : List A) (n : ℕ) (told : Bool) → SameBelow xs ys n → TellsAt xs ys n told → told ≡ true → SameBelow xs ys (n + 1)
  SameBelow-suc xs ys n told below here e k h x y at too = by (below_or k n)
    where
      by : ((k < n) ⊎ ((m : ℕ) × (n + m ≡ k))) → true ≡ E x y
      by (inl before) = below k before x y at too
      by (inr (m, f)) =
          let last : k ≡ n = omega (arith, h, f) in
          sym e ∙ here x y (rw last at at) (rw last at too)

  pointwise-other : (xs ys : List A) (n : ℕ) (x y : A) → slice_get xs n ≡ Some x → slice_get ys n ≡ Some y → E x y ≡ false → pointwise E xs ys ≡ false
  pointwise-other [] ys n x y e d f = absurd cc
  pointwise-other (a ∷ xs) [] n x y e d f = absurd cc
  pointwise-other (a ∷ xs) (b ∷ ys) zero x y e d f =
      let first : a ≡ x = cc in
      let second : b ≡ y = cc in
      rw (first, second, f) refl
  pointwise-other (a ∷ xs) (b ∷ ys) (suc n) x y e d f = rw (pointwise-other xs ys n x y e d f) (never (E a b))

  -- equal elements make lists of one length equal, and different ones make them different
  pub pointwise-same : (xs ys : List A) (n : ℕ) → length xs ≡ length ys → length xs ≤ n → SameBelow xs ys n → true ≡ pointwise E xs ys
  pointwise-same xs ys n e h below = by xs ys e (λ k x y at. below k (omega (arith, h, slice_get_within xs k x at)) x y at)
    where
      by : (xs ys : List A) → length xs ≡ length ys → ((k : ℕ) → TellsAt xs ys k true) → true ≡ pointwise E xs ys
      by [] [] e f = refl
      by [] (y ∷ ys) e f = absurd (omega (arith, e))
      by (x ∷ xs) [] e f = absurd (omega (arith, e))
      by (x ∷ xs) (y ∷ ys) e f = rw (← f zero x y refl refl, ← by xs ys (omega (arith, e)) (λ k. f (suc k))) refl

  pub pointwise-differ : (xs ys : List A) (n : ℕ) (told : Bool) → length xs ≡ length ys → n < length xs → TellsAt xs ys n told → told ≡ false → false ≡ pointwise E xs ys
  pointwise-differ xs ys n told e h here f =
      let x = some_at xs n h in
      let y = some_at ys n (omega (arith, h, e)) in
      sym (pointwise-other xs ys n x.0 y.0 x.1 y.1 (sym (here x.0 y.0 x.1 y.1) ∙ f))
