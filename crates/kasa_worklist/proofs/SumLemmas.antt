-- Sums below a number, and lists of different numbers.
use Rattle.std.proofs.Common.{◌≡◌, ◌≢◌, ℕ, zero, suc, ◌+◌, ◌<◌, ◌≤◌, inl, inr, Bool, true, false, if◌then◌else◌, List, [], ◌∷◌, ◌++◌, length, refl, sym, arith, length-append}
use Rattle.kasa_lists.specs.Lists.{Has, AllDifferent}
use Rattle.kasa_lists.proofs.Numbers.{same_or_not, less_or}
use Rattle.kasa_lists.proofs.Having.{Has-left, Has-last}
use Rattle.kasa_lists.proofs.Different.{length-within}
use Rattle.kasa_worklist.specs.Sums.{sum_below}

-- sums of the same numbers
pub sum_below-same : (n : ℕ) (f g : ℕ → ℕ) → ((k : ℕ) → k < n → f k ≡ g k) → sum_below n f ≡ sum_below n g
unfolding sum_below
sum_below-same zero f g same = refl
sum_below-same (suc n) f g same =
    let rest = sum_below-same n f g (λ k below. same k (omega arith)) in
    let here = same n (omega arith) in
    omega arith

-- one of the numbers is larger by some amount at least, and the others are the same
pub sum_below-grown : (n : ℕ) (f g : ℕ → ℕ) (i more : ℕ) → i < n → ((k : ℕ) → k ≢ i → f k ≡ g k) → f i + more ≤ g i → sum_below n f + more ≤ sum_below n g
unfolding sum_below
sum_below-grown zero f g i more below others here = absurd (omega arith)
sum_below-grown (suc n) f g i more below others here = elim (same_or_not i n) [
  | inl e ↦
      let rest = sum_below-same n f g (λ k less. others k (λ same. absurd (omega (arith, same, e)))) in
      let last : f n + more ≤ g n = rw e at here in
      omega arith
  | inr ne ↦
      let rest = sum_below-grown n f g i more (omega (arith, ne)) others here in
      let last = others n (λ same. ne (sym same)) in
      omega arith
]

-- ---- numbers below one that have a property

abbrev numbers_below : ℕ → (ℕ → Bool) → List ℕ
numbers_below zero P = []
numbers_below (suc n) P = numbers_below n P ++ (if P n then n ∷ [] else [])

length-one_if : (b : Bool) (n : ℕ) → length (if b then n ∷ [] else []) ≡ (if b then 1 else 0)
length-one_if true n = refl
length-one_if false n = refl

length-numbers_below : (n : ℕ) (P : ℕ → Bool) → length (numbers_below n P) ≡ sum_below n (λ k. if P k then 1 else 0)
unfolding sum_below
length-numbers_below zero P = refl
length-numbers_below (suc n) P =
    let rest = length-numbers_below n P in
    let both = length-append (numbers_below n P) (if P n then n ∷ [] else []) in
    let here = length-one_if (P n) n in
    omega arith

Has-if : (b : Bool) (xs : List ℕ) (n : ℕ) → b ≡ true → Has (xs ++ (if b then n ∷ [] else [])) n
Has-if true xs n e = Has-last xs n n refl
Has-if false xs n e = absurd cc

Has-numbers_below : (n : ℕ) (P : ℕ → Bool) (k : ℕ) → k < n → P k ≡ true → Has (numbers_below n P) k
Has-numbers_below zero P k below is = absurd (omega arith)
Has-numbers_below (suc n) P k below is = elim (less_or k n (omega arith)) [
  | inl less ↦ Has-left (numbers_below n P) (if P n then n ∷ [] else []) k (Has-numbers_below n P k less is)
  | inr e ↦ rw e (Has-if (P n) (numbers_below n P) n (rw e at is))
]

-- different numbers below one that have a property are no more than there are
pub count-below : (numbers : List ℕ) (n : ℕ) (P : ℕ → Bool) → AllDifferent numbers → ((k : ℕ) → Has numbers k → (k < n) × (P k ≡ true)) → length numbers ≤ sum_below n (λ k. if P k then 1 else 0)
count-below numbers n P different are =
    let within = length-within numbers (numbers_below n P) different (λ k has. Has-numbers_below n P k (are k has).0 (are k has).1) in
    let all = length-numbers_below n P in
    omega arith

-- and no more than the numbers below it
pub sum_below-few : (n : ℕ) (P : ℕ → Bool) → sum_below n (λ k. if P k then 1 else 0) ≤ n
unfolding sum_below
sum_below-few zero P = omega arith
sum_below-few (suc n) P =
    let rest = sum_below-few n P in
    let here : (if P n then 1 else 0) ≤ 1 = at_most_one (P n) in
    omega arith
  where
    at_most_one : (b : Bool) → (if b then 1 else 0) ≤ 1
    at_most_one true = omega arith
    at_most_one false = omega arith
