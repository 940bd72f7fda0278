-- The first of ascending rows that isn't stored is the least.
use Rattle.std.proofs.Common.{◌≡◌, ℕ, zero, suc, ◌+◌, ◌<◌, ◌≤◌, inl, inr, List, [], ◌∷◌, length, subst, sym, ◌∙◌, arith}
use Rattle.std.specs.Prelude.{Some, None, slice_get}
use Rattle.std.proofs.lemmas.Option.{same_Some, slice_get_within}
use Rattle.kasa_lists.specs.Lists.{Has}
use Rattle.kasa_families.specs.declared.row.Row.{Row}
use Rattle.kasa_families.specs.Row.{IsRowBelow, AreAscending}
use Rattle.kasa_families.proofs.RowOrder.{IsRowBelow-trans}
use Rattle.kasa_check.specs.Search.{IsLeastNew}
use Rattle.kasa_check.proofs.FirstLemmas.{compare}

ascending_tail : (row : Row) (rows : List Row) → AreAscending (row ∷ rows) → AreAscending rows
ascending_tail row [] up = tt
ascending_tail row (next ∷ rows) up = up.1

above_head : (row : Row) (rows : List Row) → AreAscending (row ∷ rows) → (j : ℕ) (other : Row) → slice_get rows j ≡ Some other → IsRowBelow row other
above_head row [] up j other at = absurd cc
above_head row (next ∷ rows) up zero other at = subst (λ (x : Row). IsRowBelow row x) (same_Some next other at) up.0
above_head row (next ∷ rows) up (suc j) other at = IsRowBelow-trans row next other up.0 (above_head next rows up.1 j other at)

apart : (rows : List Row) → AreAscending rows → (i j : ℕ) (row other : Row) → slice_get rows i ≡ Some row → slice_get rows j ≡ Some other → i < j → IsRowBelow row other
apart [] up i j row other at there less = absurd cc
apart (first ∷ rows) up i zero row other at there less = absurd (omega arith)
apart (first ∷ rows) up zero (suc j) row other at there less = subst (λ (x : Row). IsRowBelow x other) (same_Some first row at) (above_head first rows up j other there)
apart (first ∷ rows) up (suc i) (suc j) row other at there less = apart rows (ascending_tail first rows up) i j row other at there (omega arith)

module _ (stored given : List Row) (up : AreAscending given) (i : ℕ) (before : (j : ℕ) (row : Row) → j < i → slice_get given j ≡ Some row → Has stored row) where
  pub least_new : (row : Row) → slice_get given i ≡ Some row → (Has stored row → ⊥) → IsLeastNew stored given (Some row)
  least_new row at new = (
    (i, at),
    new,
    λ other (j, there) apart_too.
        elim (compare j i) [
          | inl less ↦ absurd (apart_too (before j other less there))
          | inr (inl same) ↦ inl (same_Some row other (sym at ∙ subst (λ (k : ℕ). slice_get given k ≡ Some other) same there))
          | inr (inr more) ↦ inr (apart given up i j row other at there more)
        ],
  )

  pub none_new : length given ≤ i → IsLeastNew stored given None
  none_new all row (j, at) = let within = slice_get_within given j row at in before j row (omega arith) at

pub one_more : (stored given : List Row) (i : ℕ) (row : Row) → slice_get given i ≡ Some row → Has stored row → ((j : ℕ) (other : Row) → j < i → slice_get given j ≡ Some other → Has stored other) → (j : ℕ) (other : Row) → j < i + 1 → slice_get given j ≡ Some other → Has stored other
one_more stored given i row at has before j other less there = elim (compare j i) [
  | inl below ↦ before j other below there
  | inr (inl same) ↦ rw (same_Some row other (sym at ∙ subst (λ (k : ℕ). slice_get given k ≡ Some other) same there)) at has
  | inr (inr more) ↦ absurd (omega arith)
]
