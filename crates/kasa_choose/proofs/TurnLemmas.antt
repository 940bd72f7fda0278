-- What one more turn of a loop adds to filters, joined lists and kept families.
use Rattle.std.proofs.Common.{◌≡◌, ℕ, zero, suc, ◌+◌, ◌≤◌, Bool, true, false, cond, List, [], ◌∷◌, ◌++◌, length, map, take, refl, ap, sym, ◌∙◌, arith}
use Rattle.std.specs.Prelude.{Some, slice_get}
use Rattle.std.specs.List.{filter, flat_map, range_with_len}
use Rattle.std.proofs.lemmas.List.{append-nil, append_assoc, map-append, take_all}
use Rattle.kasa_lists.proofs.Elements.{take-next}
use Rattle.kasa_families.specs.declared.family.Family.{Family}
use Rattle.kasa_choose.specs.Kept.{keep, keep_all}
use Rattle.kasa_choose.specs.Views.{numbers}
use Rattle.kasa_choose.proofs.Keys.{keep_all-append}

range_push : (a n : ℕ) → range_with_len a (suc n) ≡ range_with_len a n ++ (a + n) ∷ []
range_push a zero = ap (λ k. k ∷ []) (let e : a ≡ a + 0 = omega arith in e)
range_push a (suc n) = ap (λ xs. a ∷ xs) (range_push (a + 1) n ∙ ap (λ k. range_with_len (a + 1) n ++ k ∷ []) (let e : a + 1 + n ≡ a + suc n = omega arith in e))

pub numbers_push : (n : ℕ) → numbers (n + 1) ≡ numbers n ++ n ∷ []
numbers_push n = let e : n + 1 ≡ suc n = omega arith in ap numbers e ∙ range_push 0 n ∙ ap (λ k. numbers n ++ k ∷ []) (let same : 0 + n ≡ n = omega arith in same)

filter_append : {X : Type 0} (p : X → Bool) (xs ys : List X) → filter p (xs ++ ys) ≡ filter p xs ++ filter p ys
filter_append p [] ys = refl
filter_append p (x ∷ xs) ys = by (p x) (filter_append p xs ys)
  where
    by : (b : Bool) → filter p (xs ++ ys) ≡ filter p xs ++ filter p ys → cond b (x ∷ filter p (xs ++ ys)) (filter p (xs ++ ys)) ≡ cond b (x ∷ filter p xs) (filter p xs) ++ filter p ys
    by true e = ap (λ zs. x ∷ zs) e
    by false e = e

flat_append : {X Y : Type 0} (f : X → List Y) (xs ys : List X) → flat_map f (xs ++ ys) ≡ flat_map f xs ++ flat_map f ys
flat_append f [] ys = refl
flat_append f (x ∷ xs) ys = ap (λ zs. f x ++ zs) (flat_append f xs ys) ∙ sym (append_assoc (f x) (flat_map f xs) (flat_map f ys))

take_push : {X : Type 0} (xs : List X) (k : ℕ) (x : X) → slice_get xs k ≡ Some x → take (k + 1) xs ≡ take k xs ++ x ∷ []
take_push xs k x at = let e : k + 1 ≡ suc k = omega arith in ap (λ n. take n xs) e ∙ take-next xs k x at

-- ---- numbers that pass a test

pub filter_more : (p : ℕ → Bool) (n : ℕ) → p n ≡ true → filter p (numbers (n + 1)) ≡ filter p (numbers n) ++ n ∷ []
filter_more p n is = ap (filter p) (numbers_push n) ∙ filter_append p (numbers n) (n ∷ []) ∙ rw is refl

pub filter_less : (p : ℕ → Bool) (n : ℕ) → p n ≡ false → filter p (numbers (n + 1)) ≡ filter p (numbers n)
filter_less p n is = ap (filter p) (numbers_push n) ∙ filter_append p (numbers n) (n ∷ []) ∙ rw is (append-nil (filter p (numbers n)))

-- ---- families kept for each number, and for each element

pub number_turn : (start : List Family) (f : ℕ → List Family) (n : ℕ) (mid new : List Family) → mid ≡ keep_all start (flat_map f (numbers n)) → new ≡ keep_all mid (f n) → new ≡ keep_all start (flat_map f (numbers (n + 1)))
number_turn start f n mid new is more =
    let grown : flat_map f (numbers (n + 1)) ≡ flat_map f (numbers n) ++ f n = ap (flat_map f) (numbers_push n) ∙ flat_append f (numbers n) (n ∷ []) ∙ ap (λ ys. flat_map f (numbers n) ++ ys) (append-nil (f n)) in
    more ∙ ap (λ fs. keep_all fs (f n)) is ∙ sym (keep_all-append start (flat_map f (numbers n)) (f n)) ∙ ap (keep_all start) (sym grown)

pub element_turn : {X : Type 0} (start : List Family) (f : X → List Family) (xs : List X) (k : ℕ) (x : X) (mid new : List Family) → slice_get xs k ≡ Some x → mid ≡ keep_all start (flat_map f (take k xs)) → new ≡ keep_all mid (f x) → new ≡ keep_all start (flat_map f (take (k + 1) xs))
element_turn start f xs k x mid new at is more =
    let grown : flat_map f (take (k + 1) xs) ≡ flat_map f (take k xs) ++ f x = ap (flat_map f) (take_push xs k x at) ∙ flat_append f (take k xs) (x ∷ []) ∙ ap (λ ys. flat_map f (take k xs) ++ ys) (append-nil (f x)) in
    more ∙ ap (λ fs. keep_all fs (f x)) is ∙ sym (keep_all-append start (flat_map f (take k xs)) (f x)) ∙ ap (keep_all start) (sym grown)

pub map_turn : {X : Type 0} (start : List Family) (f : X → Family) (xs : List X) (k : ℕ) (x : X) (mid new : List Family) → slice_get xs k ≡ Some x → mid ≡ keep_all start (map f (take k xs)) → new ≡ keep mid (f x) → new ≡ keep_all start (map f (take (k + 1) xs))
map_turn start f xs k x mid new at is more =
    let grown : map f (take (k + 1) xs) ≡ map f (take k xs) ++ f x ∷ [] = ap (map f) (take_push xs k x at) ∙ map-append f (take k xs) (x ∷ []) in
    more ∙ ap (λ fs. keep fs (f x)) is ∙ sym (keep_all-append start (map f (take k xs)) (f x ∷ [])) ∙ ap (keep_all start) (sym grown)

-- all elements
pub taken_all : {X : Type 0} (xs : List X) (k : ℕ) → length xs ≤ k → take k xs ≡ xs
taken_all xs k all = take_all k xs all
