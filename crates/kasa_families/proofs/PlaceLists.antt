-- Lists of the nodes of a place, and lists that are filled one by one.
use Rattle.std.proofs.Common.{◌≡◌, ◌↔◌, ℕ, zero, suc, ◌+◌, ◌<◌, ◌≤◌, ◌⊎◌, inl, inr, List, [], ◌∷◌, Bool, true, false, refl, sym, ap, ◌∙◌, length, take, eqb, arith}
use Rattle.std.specs.Prelude.{Some, IsTrue, slice_get, slice_set}
use Rattle.std.proofs.lemmas.Bool.Decides.{Decides-eqb}
use Rattle.kasa_graph.specs.Lists.{Has}
use Rattle.kasa_graph.proofs.ListLemmas.{below_or}

pub Has-second : (n m k : ℕ) (a b : Bool) → a ≡ eqb k n → a ≡ false → b ≡ eqb k m → IsTrue b ↔ Has (n ∷ m ∷ []) k
Has-second n m k a b first not second = (λ yes. (1, ap Some (sym ((Decides-eqb k m).0 (sym second ∙ yes)))), found)
  where
    found : Has (n ∷ m ∷ []) k → IsTrue b
    found (zero, e) = absurd (let here = (Decides-eqb k n).1 (let same : n ≡ k = cc in sym same) in cc)
    found (suc zero, e) = second ∙ (Decides-eqb k m).1 (let same : m ≡ k = cc in sym same)
    found (suc (suc i), e) = absurd cc

pub Has-early : (n m last k : ℕ) (a : Bool) → IsTrue a ↔ Has (n ∷ m ∷ []) k → a ≡ true → IsTrue a ↔ Has (n ∷ m ∷ last ∷ []) k
Has-early n m last k a tells held = (λ _. earlier (tells.0 held), λ _. held)
  where
    earlier : Has (n ∷ m ∷ []) k → Has (n ∷ m ∷ last ∷ []) k
    earlier (zero, e) = (0, e)
    earlier (suc zero, e) = (1, e)
    earlier (suc (suc i), e) = absurd cc

pub Has-late : (n m last k : ℕ) (a b : Bool) → IsTrue a ↔ Has (n ∷ m ∷ []) k → a ≡ false → b ≡ eqb k last → IsTrue b ↔ Has (n ∷ m ∷ last ∷ []) k
Has-late n m last k a b tells not third = (λ yes. (2, ap Some (sym ((Decides-eqb k last).0 (sym third ∙ yes)))), found)
  where
    found : Has (n ∷ m ∷ last ∷ []) k → IsTrue b
    found (zero, e) = absurd (let yes = tells.1 (0, e) in cc)
    found (suc zero, e) = absurd (let yes = tells.1 (1, e) in cc)
    found (suc (suc zero), e) = third ∙ (Decides-eqb k last).1 (let same : last ≡ k = cc in sym same)
    found (suc (suc (suc i)), e) = absurd cc

-- ---- a list that is filled one by one

pub slice_get-set_same : {X : Type 0} (xs : List X) (i : ℕ) (x : X) → i < length xs → slice_get (slice_set xs i x) i ≡ Some x
slice_get-set_same [] i x low = absurd (omega arith)
slice_get-set_same (y ∷ xs) zero x low = refl
slice_get-set_same (y ∷ xs) (suc i) x low = slice_get-set_same xs i x (omega arith)

pub slice_get-set_before : {X : Type 0} (xs : List X) (i j : ℕ) (x : X) → j < i → slice_get (slice_set xs i x) j ≡ slice_get xs j
slice_get-set_before [] i j x low = refl
slice_get-set_before (y ∷ xs) zero j x low = absurd (omega arith)
slice_get-set_before (y ∷ xs) (suc i) zero x low = refl
slice_get-set_before (y ∷ xs) (suc i) (suc j) x low = slice_get-set_before xs i j x (omega arith)

pub take_filled : {X : Type 0} (xs ys : List X) (n : ℕ) → n ≡ length ys → length ys ≤ length xs → ((j : ℕ) (y : X) → slice_get ys j ≡ Some y → slice_get xs j ≡ Some y) → take n xs ≡ ys
take_filled xs [] n count few filled = rw count refl
take_filled [] (y ∷ ys) n count few filled = absurd (omega arith)
take_filled (x ∷ xs) (y ∷ ys) zero count few filled = absurd (omega arith)
take_filled (x ∷ xs) (y ∷ ys) (suc n) count few filled =
    let first : x ≡ y = let e = filled 0 y refl in cc in
    let rest = take_filled xs ys n (omega arith) (omega arith) (λ j. filled (suc j)) in
    rw (first, rest) refl

pub length-set : {X : Type 0} (xs : List X) (i : ℕ) (x : X) → length (slice_set xs i x) ≡ length xs
length-set [] i x = refl
length-set (y ∷ xs) zero x = refl
length-set (y ∷ xs) (suc i) x = ap suc (length-set xs i x)

-- one more element is filled in
pub filled_next : {X : Type 0} (xs ys : List X) (k size : ℕ) (x : X) → (length xs ≡ size) × ((j : ℕ) (y : X) → j < k → slice_get ys j ≡ Some y → slice_get xs j ≡ Some y) → slice_get ys k ≡ Some x → k < size → (length (slice_set xs k x) ≡ size) × ((j : ℕ) (y : X) → j < k + 1 → slice_get ys j ≡ Some y → slice_get (slice_set xs k x) j ≡ Some y)
filled_next xs ys k size x (long, filled) is low = (
  length-set xs k x ∙ long,
  λ j y below e. elim (below_or j k) [
    | inl before ↦ slice_get-set_before xs k j x before ∙ filled j y before e
    | inr past ↦
        let here : k ≡ j = let at = past.1 in omega arith in
        let same : x ≡ y = let other = rw (← here) at e in cc in
        rw (← here, ← same) (slice_get-set_same xs k x (rw long low))
  ],
)
