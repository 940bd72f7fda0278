-- Lists where an element is written.
use Rattle.std.proofs.Common.{◌≡◌, ◌≢◌, ℕ, zero, suc, ◌<◌, List, [], ◌∷◌, length, refl, ap, arith}
use Rattle.std.specs.Prelude.{Some, slice_get, slice_set}

pub slice_get-set_same : {X : Type 0} (xs : List X) (i : ℕ) (x y : X) → slice_get (slice_set xs i y) i ≡ Some x → y ≡ x
slice_get-set_same [] i x y at = absurd cc
slice_get-set_same (z ∷ xs) zero x y at = cc
slice_get-set_same (z ∷ xs) (suc i) x y at = slice_get-set_same xs i x y at

pub slice_get-set_here : {X : Type 0} (xs : List X) (i : ℕ) (y : X) → i < length xs → slice_get (slice_set xs i y) i ≡ Some y
slice_get-set_here [] i y below = absurd (omega arith)
slice_get-set_here (z ∷ xs) zero y below = refl
slice_get-set_here (z ∷ xs) (suc i) y below = slice_get-set_here xs i y (omega arith)

pub slice_get-set_other : {X : Type 0} (xs : List X) (i j : ℕ) (y : X) → i ≢ j → slice_get (slice_set xs i y) j ≡ slice_get xs j
slice_get-set_other [] i j y ne = refl
slice_get-set_other (z ∷ xs) zero zero y ne = absurd (ne refl)
slice_get-set_other (z ∷ xs) zero (suc j) y ne = refl
slice_get-set_other (z ∷ xs) (suc i) zero y ne = refl
slice_get-set_other (z ∷ xs) (suc i) (suc j) y ne = slice_get-set_other xs i j y (λ e. ne (ap suc e))

pub length-slice_set : {X : Type 0} (xs : List X) (i : ℕ) (y : X) → length (slice_set xs i y) ≡ length xs
length-slice_set [] i y = refl
length-slice_set (z ∷ xs) zero y = refl
length-slice_set (z ∷ xs) (suc i) y = ap suc (length-slice_set xs i y)
