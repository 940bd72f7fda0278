-- Facts of each element of a list.
use Rattle.std.proofs.Common.{◌≡◌, ◌≤◌, ◌<◌, ◌+◌, ℕ, zero, suc, List, [], ◌∷◌, ◌++◌, length, take, sym, ap, subst, arith, get_or, add-one}
use Rattle.std.specs.List.{AllByRecursion}

-- xs is its first i elements, then x, then some more
pub split_at : {X : Type 0} (xs : List X) (i : ℕ) (x d : X) → i < length xs → x ≡ get_or xs i d → (rest : List X) × (xs ≡ take i xs ++ (x ∷ rest))
split_at [] i x d h at = absurd (omega arith)
split_at (y ∷ xs) zero x d h at = (xs, ap (λ z. z ∷ xs) (sym at))
split_at (y ∷ xs) (suc i) x d h at = let more = split_at xs i x d (omega arith) at in (more.0, ap (λ zs. y ∷ zs) more.1)

pub all_more : {X : Type 0} (P : X → Type 0) (xs : List X) (i : ℕ) (x d : X) → AllByRecursion P (take i xs) → i < length xs → x ≡ get_or xs i d → P x → AllByRecursion P (take (i + 1) xs)
all_more {X = X} P xs i x d all h at holds = rw add-one (by xs i all h at)
  where
    by : (xs : List X) (i : ℕ) → AllByRecursion P (take i xs) → i < length xs → x ≡ get_or xs i d → AllByRecursion P (take (suc i) xs)
    by [] i all h at = absurd (omega arith)
    by (y ∷ xs) zero all h at = (subst P at holds, tt)
    by (y ∷ xs) (suc i) all h at = (all.0, by xs i all.1 (omega arith) at)

pub all_whole : {X : Type 0} (P : X → Type 0) (xs : List X) (i : ℕ) → AllByRecursion P (take i xs) → length xs ≤ i → AllByRecursion P xs
all_whole P [] i all h = tt
all_whole P (y ∷ xs) zero all h = absurd (omega arith)
all_whole P (y ∷ xs) (suc i) all h = (all.0, all_whole P xs i all.1 (omega arith))
