-- Lists whose elements are those of another list, each made by its place.
use Rattle.std.proofs.Common.{◌≡◌, ℕ, zero, suc, ◌+◌, List, [], ◌∷◌, length, map, refl, subst, arith}
use Rattle.std.specs.Prelude.{Some, slice_get}
use Rattle.kasa_graph.specs.Lists.{map_from}

module _ {X Y : Type 0} where
  places_from : (f : ℕ → X → Y) (i : ℕ) (xs : List X) (ys : List Y) → length ys ≡ length xs → ((n : ℕ) (x : X) (y : Y) → slice_get xs n ≡ Some x → slice_get ys n ≡ Some y → y ≡ f (i + n) x) → ys ≡ map_from i f xs
  places_from f i [] [] long same = refl
  places_from f i [] (y ∷ ys) long same = absurd (omega (arith, long))
  places_from f i (x ∷ xs) [] long same = absurd (omega (arith, long))
  places_from f i (x ∷ xs) (y ∷ ys) long same =
      let here : y ≡ f i x = subst (λ m. y ≡ f m x) (omega arith) (same zero x y refl refl) in
      let more = places_from f (suc i) xs ys (omega (arith, long)) (λ n z w p q. subst (λ m. w ≡ f m z) (omega arith) (same (suc n) z w p q)) in
      cc

  pub by_places : (f : ℕ → X → Y) (xs : List X) (ys : List Y) → length ys ≡ length xs → ((n : ℕ) (x : X) (y : Y) → slice_get xs n ≡ Some x → slice_get ys n ≡ Some y → y ≡ f n x) → ys ≡ map_from 0 f xs
  by_places f xs ys long same = places_from f 0 xs ys long (λ n x y p q. subst (λ m. y ≡ f m x) (omega arith) (same n x y p q))

  pub by_elements : (f : X → Y) (xs : List X) (ys : List Y) → length ys ≡ length xs → ((n : ℕ) (x : X) (y : Y) → slice_get xs n ≡ Some x → slice_get ys n ≡ Some y → y ≡ f x) → ys ≡ map f xs
  by_elements f [] [] long same = refl
  by_elements f [] (y ∷ ys) long same = absurd (omega (arith, long))
  by_elements f (x ∷ xs) [] long same = absurd (omega (arith, long))
  by_elements f (x ∷ xs) (y ∷ ys) long same =
      let here : y ≡ f x = same zero x y refl refl in
      let more = by_elements f xs ys (omega (arith, long)) (λ n z w p q. same (suc n) z w p q) in
      cc

-- a number that each element has, where the list of these numbers is known
pub number_at : {Y : Type 0} (g : Y → ℕ) (ys : List Y) (counts : List ℕ) (n k : ℕ) (y : Y) → map g ys ≡ counts → slice_get ys n ≡ Some y → slice_get counts n ≡ Some k → g y ≡ k
number_at g [] counts n k y are at there = absurd cc
number_at g (z ∷ ys) [] n k y are at there = absurd cc
number_at g (z ∷ ys) (c ∷ counts) zero k y are at there = cc
number_at g (z ∷ ys) (c ∷ counts) (suc n) k y are at there = let rest : map g ys ≡ counts = cc in number_at g ys counts n k y rest at there
