-- Elements by their numbers: of a list, of two lists end to end, and of the first and the last ones of a list.
use Rattle.std.proofs.Common.{◌≡◌, ℕ, zero, suc, ◌+◌, ◌<◌, ◌≤◌, ◌↔◌, ◌⊎◌, inl, inr, List, [], ◌∷◌, ◌++◌, length, take, drop, get_or, add-one, refl, ap, sym, ◌∙◌, arith}
use Rattle.std.specs.Prelude.{Option, Some, None, IsSome, slice_get, option_and_then}
use Rattle.std.proofs.lemmas.Option.{slice_get_read}
use Rattle.kasa_lists.proofs.Numbers.{below_or}

-- ---- the numbers of a list

pub some_at : {X : Type 0} (xs : List X) (n : ℕ) → n < length xs → (x : X) × (slice_get xs n ≡ Some x)
some_at [] n h = absurd (omega arith)
some_at (x ∷ xs) zero h = (x, refl)
some_at (x ∷ xs) (suc n) h = some_at xs n (omega arith)

pub some_below : {X : Type 0} (xs : List X) (s : ℕ) → (s < length xs) ↔ IsSome (slice_get xs s)
some_below [] s = (λ below. absurd (omega arith), λ some. absurd cc)
some_below (x ∷ xs) zero = (λ below. refl, λ some. omega arith)
some_below (x ∷ xs) (suc s) = let rest = some_below xs s in (λ below. rest.0 (omega arith), λ some. let below = rest.1 some in omega arith)

-- an element of as long a list
pub some_beside : {X Y : Type 0} (xs : List X) (ys : List Y) (s : ℕ) → length xs ≡ length ys → IsSome (slice_get ys s) → IsSome (slice_get xs s)
some_beside [] [] s e h = absurd cc
some_beside [] (y ∷ ys) s e h = absurd (omega arith)
some_beside (x ∷ xs) [] s e h = absurd (omega arith)
some_beside (x ∷ xs) (y ∷ ys) zero e h = refl
some_beside (x ∷ xs) (y ∷ ys) (suc s) e h = some_beside xs ys s (omega arith) h

-- an element that something is read of
pub then_bound : {X Y : Type 0} (h : X → Option Y) (xs : List X) (n : ℕ) → IsSome (option_and_then h (slice_get xs n)) → n < length xs
then_bound h [] n some = absurd cc
then_bound h (x ∷ xs) zero some = omega arith
then_bound h (x ∷ xs) (suc n) some = let below = then_bound h xs n some in omega arith

pub length-past : {X : Type 0} (xs : List X) (k : ℕ) → slice_get xs k ≡ None → length xs ≤ k
length-past [] k e = omega arith
length-past (y ∷ xs) zero e = absurd cc
length-past (y ∷ xs) (suc k) e = let rest = length-past xs k e in omega arith

-- lists that agree at each number are equal
pub same_elements : {X : Type 0} (xs ys : List X) → length xs ≡ length ys → ((i : ℕ) (x y : X) → slice_get xs i ≡ Some x → slice_get ys i ≡ Some y → x ≡ y) → xs ≡ ys
same_elements [] [] e same = refl
same_elements [] (y ∷ ys) e same = absurd (omega arith)
same_elements (x ∷ xs) [] e same = absurd (omega arith)
same_elements (x ∷ xs) (y ∷ ys) e same =
    let rest = same_elements xs ys (omega arith) (λ i. same (suc i)) in
    let first = same zero x y refl refl in
    rw (first, rest) refl

-- lists of no element and of one
pub none_listed : {X : Type 0} (xs : List X) → length xs ≡ 0 → xs ≡ []
none_listed [] e = refl
none_listed (x ∷ xs) e = absurd (omega arith)

pub one_listed : {X : Type 0} (xs : List X) (x : X) → length xs ≡ 1 → slice_get xs 0 ≡ Some x → xs ≡ x ∷ []
one_listed [] x e f = absurd cc
one_listed (y ∷ xs) x e f = let same : y ≡ x = cc in rw (same, none_listed xs (omega arith)) refl

-- ---- two lists end to end

pub slice_get-append_left : {X : Type 0} (xs ys : List X) (i : ℕ) → i < length xs → slice_get (xs ++ ys) i ≡ slice_get xs i
slice_get-append_left [] ys i h = absurd (omega arith)
slice_get-append_left (x ∷ xs) ys zero h = refl
slice_get-append_left (x ∷ xs) ys (suc i) h = slice_get-append_left xs ys i (omega arith)

pub slice_get-append_right : {X : Type 0} (xs ys : List X) (i j : ℕ) → length xs + i ≡ j → slice_get (xs ++ ys) j ≡ slice_get ys i
slice_get-append_right [] ys i j e = let same : i ≡ j = omega arith in rw same refl
slice_get-append_right (x ∷ xs) ys i zero e = absurd (omega arith)
slice_get-append_right (x ∷ xs) ys i (suc j) e = slice_get-append_right xs ys i j (omega arith)

-- an element of either
pub in_append : {X : Type 0} (xs ys : List X) (i : ℕ) (x : X) → slice_get (xs ++ ys) i ≡ Some x → (slice_get xs i ≡ Some x) ⊎ ((j : ℕ) × (length xs + j ≡ i) × (slice_get ys j ≡ Some x))
in_append xs ys i x e =
    elim (below_or i (length xs)) [
      | inl within ↦ inl (sym (slice_get-append_left xs ys i within) ∙ e)
      | inr j ↦ inr (j.0, j.1, sym (slice_get-append_right xs ys j.0 i j.1) ∙ e)
    ]

-- ---- one more element

pub length-push : {X : Type 0} (xs : List X) (x : X) → length (xs ++ x ∷ []) ≡ suc (length xs)
length-push [] x = refl
length-push (y ∷ xs) x = ap suc (length-push xs x)

pub slice_get-last : {X : Type 0} (xs : List X) (x : X) (n : ℕ) → n ≡ length xs → slice_get (xs ++ x ∷ []) n ≡ Some x
slice_get-last [] x n e = rw e refl
slice_get-last (y ∷ xs) x zero e = absurd (omega arith)
slice_get-last (y ∷ xs) x (suc n) e = slice_get-last xs x n (omega arith)

pub slice_get-pushed : {X : Type 0} (xs : List X) (x y : X) (k : ℕ) → slice_get xs k ≡ Some y → slice_get (xs ++ x ∷ []) k ≡ Some y
slice_get-pushed [] x y k e = absurd cc
slice_get-pushed (z ∷ xs) x y zero e = e
slice_get-pushed (z ∷ xs) x y (suc k) e = slice_get-pushed xs x y k e

-- an element was there before, or is the new one at the end
pub at_push : {X : Type 0} (xs : List X) (y x : X) (i : ℕ) → slice_get (xs ++ y ∷ []) i ≡ Some x → (slice_get xs i ≡ Some x) ⊎ ((i ≡ length xs) × (y ≡ x))
at_push [] y x zero at = inr (refl, cc)
at_push [] y x (suc i) at = absurd cc
at_push (z ∷ xs) y x zero at = inl at
at_push (z ∷ xs) y x (suc i) at = elim (at_push xs y x i at) [ inl e ↦ inl e | inr e ↦ inr (ap suc e.0, e.1) ]

pub pushed_or : {X : Type 0} (xs : List X) (x y : X) (k : ℕ) → slice_get (xs ++ x ∷ []) k ≡ Some y → (slice_get xs k ≡ Some y) ⊎ (y ≡ x)
pushed_or xs x y k e = elim (at_push xs x y k e) [ inl old ↦ inl old | inr new ↦ inr (sym new.1) ]

-- ---- the first elements, and those from a number on

pub slice_get-take : {X : Type 0} (xs : List X) (n i : ℕ) → i < n → slice_get (take n xs) i ≡ slice_get xs i
slice_get-take xs zero i h = absurd (omega arith)
slice_get-take [] (suc n) i h = refl
slice_get-take (x ∷ xs) (suc n) zero h = refl
slice_get-take (x ∷ xs) (suc n) (suc i) h = slice_get-take xs n i (omega arith)

pub slice_get-of_take : {X : Type 0} (xs : List X) (n i : ℕ) (x : X) → slice_get (take n xs) i ≡ Some x → (i < n) × (slice_get xs i ≡ Some x)
slice_get-of_take [] zero i x e = absurd cc
slice_get-of_take [] (suc n) i x e = absurd cc
slice_get-of_take (y ∷ xs) zero i x e = absurd cc
slice_get-of_take (y ∷ xs) (suc n) zero x e = (omega arith, e)
slice_get-of_take (y ∷ xs) (suc n) (suc i) x e = let rest = slice_get-of_take xs n i x e in (let within = rest.0 in omega arith, rest.1)

pub take-next : {X : Type 0} (xs : List X) (n : ℕ) (x : X) → slice_get xs n ≡ Some x → take (suc n) xs ≡ take n xs ++ x ∷ []
take-next [] n x e = absurd cc
take-next (y ∷ ys) zero x e = let same : y ≡ x = cc in rw same refl
take-next (y ∷ ys) (suc n) x e = ap (λ zs. y ∷ zs) (take-next ys n x e)

pub take-one_more : {X : Type 0} (xs : List X) (n : ℕ) (x : X) → slice_get xs n ≡ Some x → take (n + 1) xs ≡ take n xs ++ x ∷ []
take-one_more xs n x at = rw (add-one n) (take-next xs n x at)

-- the same for the element that a loop reads
pub take-read : {X : Type 0} (xs : List X) (i : ℕ) (x : X) → i < length xs → x ≡ get_or xs i x → take (i + 1) xs ≡ take i xs ++ x ∷ []
take-read xs i x within is = take-one_more xs i x (slice_get_read xs (length xs) i x refl within is)

pub length-taken : {X : Type 0} (xs : List X) (i : ℕ) (x : X) → slice_get xs i ≡ Some x → 0 + length (take i xs) ≡ i
length-taken [] i x at = absurd cc
length-taken (y ∷ xs) zero x at = refl
length-taken (y ∷ xs) (suc i) x at = let rest = length-taken xs i x at in omega arith

pub drop-next : {X : Type 0} (xs : List X) (k : ℕ) (x : X) → slice_get xs k ≡ Some x → drop k xs ≡ x ∷ drop (suc k) xs
drop-next [] k x e = absurd cc
drop-next (y ∷ xs) zero x e = let same : y ≡ x = cc in ap (λ z. z ∷ xs) same
drop-next (y ∷ xs) (suc k) x e = drop-next xs k x e
