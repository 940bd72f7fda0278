-- Numbers of names that were looked up, and the first of what elements of a list give.
use Rattle.std.proofs.Common.{◌≡◌, ℕ, ◌<◌, ◌≤◌, ◌+◌, zero, suc, List, [], ◌∷◌, ◌++◌, length, take, map, get_or, Option, Some, None, refl, ap, subst, ◌∙◌, arith, add-one}
use Rattle.std.specs.Prelude.{MatchOption, unwrap_or, slice_get, option_and_then}
use Rattle.std.specs.List.{flat_map}
use Rattle.kasa_graph.specs.Lists.{Has, AllDifferent}
use Rattle.kasa_sig.proofs.NumberLemmas.{number_of-found, number_of-none}
use Rattle.kasa_compile.specs.declared.said.AgentSaid.{AgentSaid}
use Rattle.kasa_compile.specs.Names.{number}
use Rattle.kasa_compile.specs.Said.{across}

pub number_found : (names : List (List ℕ)) (looked name : List ℕ) (o : Option ℕ) (n : ℕ) → AllDifferent names → looked ≡ name → MatchOption o (¬ Has names looked) (λ k. slice_get names k ≡ Some looked) → n ≡ unwrap_or o 0 → n ≡ number names name
number_found names looked name None n differ e absent is = is ∙ rw (number_of-none names name (subst (λ w. ¬ Has names w) e absent))
number_found names looked name (Some k) n differ e at is = is ∙ rw (number_of-found names name k differ (at ∙ ap (λ w. Some w) e))

-- ---- the first of what elements give

no_first : (xs : List ℕ) → None ≡ slice_get xs 0 → xs ≡ []
no_first [] e = refl
no_first (x ∷ xs) e = absurd cc

first_before : (xs ys : List ℕ) (o : ℕ) → Some o ≡ slice_get xs 0 → Some o ≡ slice_get (xs ++ ys) 0
first_before [] ys o e = absurd cc
first_before (x ∷ xs) ys o e = e

pub no_left : {X : Type 0} (xs ys : List X) → xs ++ ys ≡ [] → xs ≡ []
no_left [] ys e = refl
no_left (x ∷ xs) ys e = absurd cc

pub no_right : {X : Type 0} (xs ys : List X) → xs ++ ys ≡ [] → ys ≡ []
no_right [] ys e = e
no_right (x ∷ xs) ys e = absurd cc

module _ {X : Type 0} (f : X → List ℕ) where
  -- the first i elements give nothing, and neither does the next one
  pub none_more : (xs : List X) (i : ℕ) (x d : X) → flat_map f (take i xs) ≡ [] → i < length xs → x ≡ get_or xs i d → None ≡ slice_get (f x) 0 → flat_map f (take (i + 1) xs) ≡ []
  none_more xs i x d before h at e = rw add-one (by xs i before h at)
    where
      by : (xs : List X) (i : ℕ) → flat_map f (take i xs) ≡ [] → i < length xs → x ≡ get_or xs i d → flat_map f (take (suc i) xs) ≡ []
      by [] i before h at = absurd (omega arith)
      by (y ∷ xs) zero before h at = rw (← at, no_first (f x) e)
      by (y ∷ xs) (suc i) before h at =
          let here = no_left (f y) (flat_map f (take i xs)) before in
          let later = by xs i (no_right (f y) (flat_map f (take i xs)) before) (omega arith) at in
          rw (here, later)

  -- the first i elements give nothing, and the next one does
  pub first_here : (xs : List X) (i : ℕ) (x d : X) (o : ℕ) → flat_map f (take i xs) ≡ [] → i < length xs → x ≡ get_or xs i d → Some o ≡ slice_get (f x) 0 → Some o ≡ slice_get (flat_map f xs) 0
  first_here [] i x d o before h at e = absurd (omega arith)
  first_here (y ∷ xs) zero x d o before h at e = first_before (f y) (flat_map f xs) o (e ∙ ap (λ z. slice_get (f z) 0) at)
  first_here (y ∷ xs) (suc i) x d o before h at e =
      let later = first_here xs i x d o (no_right (f y) (flat_map f (take i xs)) before) (omega arith) at e in
      rw (no_left (f y) (flat_map f (take i xs)) before) later

-- ---- the items of two sides of an arrow

module _ {X : Type 0} (f g : X → Option AgentSaid) where
  pub across_next : (xs ys : List X) (i : ℕ) → (length xs ≤ i → i < length ys) → take (i + 1) (across (map f xs) (map g ys)) ≡ take i (across (map f xs) (map g ys)) ++ record { left = option_and_then f (slice_get xs i); right = option_and_then g (slice_get ys i) } ∷ []
  across_next xs ys i h = rw add-one (by xs ys i h)
    where
      by : (xs ys : List X) (i : ℕ) → (length xs ≤ i → i < length ys) → take (suc i) (across (map f xs) (map g ys)) ≡ take i (across (map f xs) (map g ys)) ++ record { left = option_and_then f (slice_get xs i); right = option_and_then g (slice_get ys i) } ∷ []
      by [] [] i h = absurd (let k : i < 0 = h (omega arith) in omega arith)
      by [] (y ∷ ys) zero h = refl
      by [] (y ∷ ys) (suc i) h = ap (λ ps. record { left = None; right = g y } ∷ ps) (by [] ys i (λ k. let m : suc i < suc (length ys) = h (omega arith) in omega arith))
      by (x ∷ xs) [] zero h = refl
      by (x ∷ xs) [] (suc i) h = ap (λ ps. record { left = f x; right = None } ∷ ps) (by xs [] i (λ k. let m : suc i < 0 = h (omega arith) in omega arith))
      by (x ∷ xs) (y ∷ ys) zero h = refl
      by (x ∷ xs) (y ∷ ys) (suc i) h = ap (λ ps. record { left = f x; right = g y } ∷ ps) (by xs ys i (λ k. let m : suc i < suc (length ys) = h (omega arith) in omega arith))

  pub across_all : (xs ys : List X) (i : ℕ) → length xs ≤ i → length ys ≤ i → take i (across (map f xs) (map g ys)) ≡ across (map f xs) (map g ys)
  across_all [] [] zero h k = refl
  across_all [] [] (suc i) h k = refl
  across_all [] (y ∷ ys) zero h k = absurd (omega arith)
  across_all [] (y ∷ ys) (suc i) h k = ap (λ ps. record { left = None; right = g y } ∷ ps) (across_all [] ys i (omega arith) (omega arith))
  across_all (x ∷ xs) ys zero h k = absurd (omega arith)
  across_all (x ∷ xs) [] (suc i) h k = ap (λ ps. record { left = f x; right = None } ∷ ps) (across_all xs [] i (omega arith) (omega arith))
  across_all (x ∷ xs) (y ∷ ys) (suc i) h k = ap (λ ps. record { left = f x; right = g y } ∷ ps) (across_all xs ys i (omega arith) (omega arith))
