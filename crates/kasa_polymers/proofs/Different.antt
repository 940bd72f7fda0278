-- How many different elements a list has, and the elements of a sum.
use Rattle.std.proofs.Common.{◌≡◌, ◌≢◌, ℕ, zero, suc, ◌+◌, ◌≤◌, List, [], ◌∷◌, length, refl, ap, ◌∙◌, arith}
use Rattle.std.specs.Prelude.{Some, slice_get, sum}
use Rattle.std.proofs.lemmas.List.Sums.{sum_by-cons}
use Rattle.kasa_graph.specs.Lists.{Has, AllDifferent}
use Rattle.kasa_graph.proofs.ListLemmas.{AllDifferent-tail, AllDifferent-head}

-- a list without one of its elements
others_first : {X : Type 0} (z : X) (xs : List X) (x : X) → z ≡ x → (y : X) (j : ℕ) → y ≢ x → slice_get (z ∷ xs) j ≡ Some y → Has xs y
others_first z xs x e y zero ne f = absurd (ne cc)
others_first z xs x e y (suc j) ne f = (j, f)

others_later : {X : Type 0} (z : X) (xs rest : List X) (x : X) → ((y : X) (j : ℕ) → y ≢ x → slice_get xs j ≡ Some y → Has rest y) → (y : X) (j : ℕ) → y ≢ x → slice_get (z ∷ xs) j ≡ Some y → Has (z ∷ rest) y
others_later z xs rest x others y zero ne f = (zero, f)
others_later z xs rest x others y (suc j) ne f = let h = others y j ne f in (suc h.0, h.1)

without : {X : Type 0} (xs : List X) (x : X) (k : ℕ) → slice_get xs k ≡ Some x → (rest : List X) × (length xs ≡ suc (length rest)) × ((y : X) (j : ℕ) → y ≢ x → slice_get xs j ≡ Some y → Has rest y)
without [] x k e = absurd cc
without (z ∷ xs) x zero e = (xs, refl, others_first z xs x cc)
without (z ∷ xs) x (suc k) e = let w = without xs x k e in (z ∷ w.0, (let f = w.1 in omega arith), others_later z xs w.0 x w.2)

-- different elements of a list are at most as many as it has
pub length-different : {X : Type 0} (xs ys : List X) → AllDifferent xs → ((x : X) → Has xs x → Has ys x) → length xs ≤ length ys
length-different [] ys different within = omega arith
length-different (x ∷ xs) ys different within =
    let there = within x (zero, refl) in
    let w = without ys x there.0 there.1 in
    let shorter = length-different xs w.0 (AllDifferent-tail x xs different) (λ y has.
    let h = within y (suc has.0, has.1) in
    w.2 y h.0 (λ same. AllDifferent-head x xs has.0 different (has.1 ∙ ap Some same)) h.1) in
    let e = w.1 in omega arith

-- ---- sums

pub sum-cons : (n : ℕ) (ns : List ℕ) → sum (n ∷ ns) ≡ n + sum ns
sum-cons n ns = sum_by-cons (λ x. x) n ns

pub share-within : (ns : List ℕ) (z n : ℕ) → slice_get ns z ≡ Some n → n ≤ sum ns
share-within [] z n e = absurd cc
share-within (k ∷ ns) zero n e = let same : k ≡ n = cc in let s = sum-cons k ns in omega arith
share-within (k ∷ ns) (suc z) n e = let h = share-within ns z n e in let s = sum-cons k ns in omega arith
