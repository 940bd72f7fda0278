-- Lists that a loop makes of the elements of another: each element adds what comes from it.
use Rattle.std.proofs.Common.{◌≡◌, ℕ, zero, suc, ◌+◌, ◌<◌, ◌≤◌, ◌⊎◌, inl, inr, ◌↔◌, List, [], ◌∷◌, ◌++◌, take, refl, sym, ap, length, get_or, arith, Some}
use Rattle.std.specs.Prelude.{slice_get}
use Rattle.std.proofs.lemmas.List.{take_all}
use Rattle.std.proofs.lemmas.Option.{slice_get_read}
use Rattle.kasa_graph.specs.Lists.{Has}
use Rattle.kasa_graph.proofs.ListLemmas.{pushed_or, take-next, Has-left, Has-right}
use Rattle.kasa_columns.specs.Stands.{AreFrom}

-- the first elements, with the next one
pub take_one_more : {X : Type 0} (xs : List X) (i : ℕ) (x : X) → i < length xs → x ≡ get_or xs i x → take (i + 1) xs ≡ take i xs ++ x ∷ []
take_one_more xs i x within is =
    let next : i + 1 ≡ suc i = omega arith in
    rw next (take-next xs i x (slice_get_read xs (length xs) i x refl within is))

pub take_one_at : {X : Type 0} (xs : List X) (i : ℕ) (x : X) → slice_get xs i ≡ Some x → take (i + 1) xs ≡ take i xs ++ x ∷ []
take_one_at xs i x at =
    let next : i + 1 ≡ suc i = omega arith in
    rw next (take-next xs i x at)

-- the last element, or one before it
pub last_of : {X : Type 0} (xs : List X) (x y : X) → Has (xs ++ x ∷ []) y → Has xs y ⊎ (y ≡ x)
last_of xs x y has = elim (pushed_or xs x y has.0 has.1) [ inl old ↦ inl (has.0, old) | inr new ↦ inr new ]

pub last : {X : Type 0} (xs : List X) (x y : X) → y ≡ x → Has (xs ++ x ∷ []) y
last xs x y e = Has-right xs (x ∷ []) y (zero, ap Some (sym e))

-- one element is added, and it alone comes from x
pub adds_one : {X Y : Type 0} (Q : X → Y → Type 0) (ys : List Y) (x : X) (y : Y) → Q x y → ((z : Y) → Q x z → z ≡ y) → (z : Y) → Has (ys ++ y ∷ []) z ↔ (Has ys z ⊎ Q x z)
adds_one Q ys x y is only z = (there, back)
  where
    there : Has (ys ++ y ∷ []) z → Has ys z ⊎ Q x z
    there has = elim (last_of ys y z has) [ inl old ↦ inl old | inr e ↦ inr (rw e is) ]

    back : Has ys z ⊎ Q x z → Has (ys ++ y ∷ []) z
    back (inl old) = Has-left ys (y ∷ []) z old
    back (inr q) = last ys y z (only z q)

-- nothing is added, and nothing comes from x
pub adds_none : {X Y : Type 0} (Q : X → Y → Type 0) (ys : List Y) (x : X) → ((z : Y) → ¬ Q x z) → (z : Y) → Has ys z ↔ (Has ys z ⊎ Q x z)
adds_none Q ys x none z = (λ has. inl has, λ h. elim h [ inl has ↦ has | inr q ↦ absurd (none z q) ])

-- ---- a loop over xs, which began with first

module _ {X Y : Type 0} (Q : X → Y → Type 0) (first : List Y) where
  pub pushed_none : (z : Y) → Has first z ↔ (Has first z ⊎ AreFrom Q [] z)
  pushed_none z = (λ has. inl has, λ h. elim h [ inl has ↦ has | inr from ↦ absurd (let e = from.1.1 in cc) ])

  pushed : (ys more : List Y) (seen : List X) (x : X) → ((z : Y) → Has ys z ↔ (Has first z ⊎ AreFrom Q seen z)) → ((z : Y) → Has more z ↔ (Has ys z ⊎ Q x z)) → (z : Y) → Has more z ↔ (Has first z ⊎ AreFrom Q (seen ++ x ∷ []) z)
  pushed ys more seen x so_far added z = (λ has. there ((added z).0 has), λ h. (added z).1 (back h))
    where
      there : Has ys z ⊎ Q x z → Has first z ⊎ AreFrom Q (seen ++ x ∷ []) z
      there (inl has) = elim ((so_far z).0 has) [
        | inl old ↦ inl old
        | inr from ↦ inr (from.0, Has-left seen (x ∷ []) from.0 from.1, from.2)
      ]
      there (inr q) = inr (x, last seen x x refl, q)

      back : Has first z ⊎ AreFrom Q (seen ++ x ∷ []) z → Has ys z ⊎ Q x z
      back (inl old) = inl ((so_far z).1 (inl old))
      back (inr (y, has, q)) = elim (last_of seen x y has) [
        | inl old ↦ inl ((so_far z).1 (inr (y, old, q)))
        | inr e ↦ inr (rw e at q)
      ]

  -- the next element of xs
  pub pushed_next : (xs : List X) (i : ℕ) (ys more : List Y) (x : X) → i < length xs → x ≡ get_or xs i x → ((z : Y) → Has ys z ↔ (Has first z ⊎ AreFrom Q (take i xs) z)) → ((z : Y) → Has more z ↔ (Has ys z ⊎ Q x z)) → (z : Y) → Has more z ↔ (Has first z ⊎ AreFrom Q (take (i + 1) xs) z)
  pushed_next xs i ys more x within is so_far added = rw (take_one_more xs i x within is) (pushed ys more (take i xs) x so_far added)

  pub pushed_at : (xs : List X) (i : ℕ) (ys more : List Y) (x : X) → slice_get xs i ≡ Some x → ((z : Y) → Has ys z ↔ (Has first z ⊎ AreFrom Q (take i xs) z)) → ((z : Y) → Has more z ↔ (Has ys z ⊎ Q x z)) → (z : Y) → Has more z ↔ (Has first z ⊎ AreFrom Q (take (i + 1) xs) z)
  pushed_at xs i ys more x at so_far added = rw (take_one_at xs i x at) (pushed ys more (take i xs) x so_far added)

  -- all of them
  pub pushed_all : (xs : List X) (i : ℕ) (ys : List Y) → length xs ≤ i → ((z : Y) → Has ys z ↔ (Has first z ⊎ AreFrom Q (take i xs) z)) → (z : Y) → Has ys z ↔ (Has first z ⊎ AreFrom Q xs z)
  pushed_all xs i ys end so_far = rw (sym (take_all i xs end)) so_far

-- where the loop began with nothing
pub from_all : {X Y : Type 0} (Q : X → Y → Type 0) (xs : List X) (ys : List Y) → ((z : Y) → Has ys z ↔ (Has {X = Y} [] z ⊎ AreFrom Q xs z)) → (z : Y) → Has ys z ↔ AreFrom Q xs z
from_all Q xs ys all z = (
  λ has. elim ((all z).0 has) [ inl none ↦ absurd (let e = none.1 in cc) | inr from ↦ from ],
  λ from. (all z).1 (inr from),
)

-- ---- a loop over numbers

-- one of the first numbers, or the next one
pub last_or : (k n : ℕ) → k < n + 1 → (k < n) ⊎ (k ≡ n)
last_or k n less = grind arith

-- it comes from one of the first numbers
abbrev pub FromUpto : {Y : Type 0} → (ℕ → Y → Type 0) → ℕ → Y → Type 0
FromUpto {Y} Q n y = (k : ℕ) × (k < n) × Q k y

module _ {Y : Type 0} (Q : ℕ → Y → Type 0) (first : List Y) where
  pub upto_none : (y : Y) → Has first y ↔ (Has first y ⊎ FromUpto Q 0 y)
  upto_none y = (λ has. inl has, λ h. elim h [ inl has ↦ has | inr u ↦ absurd (let l = u.1 in omega arith) ])

  module _ (n : ℕ) (ys : List Y) (so_far : (y : Y) → Has ys y ↔ (Has first y ⊎ FromUpto Q n y)) where
    pub upto_next : (more : List Y) → ((y : Y) → Has more y ↔ (Has ys y ⊎ Q n y)) → (y : Y) → Has more y ↔ (Has first y ⊎ FromUpto Q (n + 1) y)
    upto_next more added y = (λ has. there ((added y).0 has), λ h. (added y).1 (back h))
      where
        there : Has ys y ⊎ Q n y → Has first y ⊎ FromUpto Q (n + 1) y
        there (inl has) = elim ((so_far y).0 has) [
          | inl old ↦ inl old
          | inr u ↦ inr (u.0, let l = u.1 in omega arith, u.2)
        ]
        there (inr q) = inr (n, omega arith, q)

        back : Has first y ⊎ FromUpto Q (n + 1) y → Has ys y ⊎ Q n y
        back (inl old) = inl ((so_far y).1 (inl old))
        back (inr (k, less, q)) = elim (last_or k n less) [
          | inl lower ↦ inl ((so_far y).1 (inr (k, lower, q)))
          | inr same ↦ inr (rw same at q)
        ]

-- all numbers that something comes from are among the first
pub upto_all : {Y : Type 0} (Q : ℕ → Y → Type 0) (first : List Y) (n : ℕ) (ys : List Y) → ((k : ℕ) (y : Y) → Q k y → k < n) → ((y : Y) → Has ys y ↔ (Has first y ⊎ FromUpto Q n y)) → (y : Y) → Has ys y ↔ (Has first y ⊎ ((k : ℕ) × Q k y))
upto_all Q first n ys within so_far y = (
  λ has. elim ((so_far y).0 has) [ inl old ↦ inl old | inr u ↦ inr (u.0, u.2) ],
  λ h. elim h [ inl old ↦ (so_far y).1 (inl old) | inr u ↦ (so_far y).1 (inr (u.0, within u.0 y u.1, u.1)) ],
)

-- the last of two choices read otherwise
pub or_to : {A B C D : Type 0} → A ↔ (B ⊎ C) → C ↔ D → A ↔ (B ⊎ D)
or_to first second = (
  λ a. elim (first.0 a) [ inl b ↦ inl b | inr c ↦ inr (second.0 c) ],
  λ h. elim h [ inl b ↦ first.1 (inl b) | inr d ↦ first.1 (inr (second.1 d)) ],
)

pub both_ways : {A B C : Type 0} → A ↔ B → B ↔ C → A ↔ C
both_ways first second = (λ a. second.0 (first.0 a), λ c. first.1 (second.1 c))
