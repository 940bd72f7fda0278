-- Lists whose elements go together, and those whose elements all do.
use Rattle.std.proofs.Common.{◌≡◌, ℕ, zero, suc, ◌⊎◌, inl, inr, List, [], ◌∷◌, refl, length, map, arith, Some}
use Rattle.std.specs.Prelude.{slice_get}
use Rattle.std.specs.List.{AllByRecursion, AllZip}

pub all_of : {X : Type 0} (P : X → Type 0) (xs : List X) → ((n : ℕ) (x : X) → slice_get xs n ≡ Some x → P x) → AllByRecursion P xs
all_of P [] each = tt
all_of P (x ∷ xs) each = (each zero x refl, all_of P xs (λ n. each (suc n)))

pub zip_of : {X Y : Type 0} (P : X → Y → Type 0) (xs : List X) (ys : List Y) → length xs ≡ length ys → ((n : ℕ) (x : X) (y : Y) → slice_get xs n ≡ Some x → slice_get ys n ≡ Some y → P x y) → AllZip P xs ys
zip_of P [] [] long each = tt
zip_of P [] (y ∷ ys) long each = absurd (omega arith)
zip_of P (x ∷ xs) [] long each = absurd (omega arith)
zip_of P (x ∷ xs) (y ∷ ys) long each = (each zero x y refl refl, zip_of P xs ys (omega arith) (λ n. each (suc n)))

-- what two relations and a property of the first element make
pub zip_both : {X Y : Type 0} (R : X → Type 0) (P Q S : X → Y → Type 0) → ((x : X) (y : Y) → R x → P x y → Q x y → S x y) → (xs : List X) (ys : List Y) → AllByRecursion R xs → AllZip P xs ys → AllZip Q xs ys → AllZip S xs ys
zip_both R P Q S to [] [] rs ps qs = tt
zip_both R P Q S to [] (y ∷ ys) rs ps qs = absurd ps
zip_both R P Q S to (x ∷ xs) [] rs ps qs = absurd ps
zip_both R P Q S to (x ∷ xs) (y ∷ ys) rs ps qs = (to x y rs.0 ps.0 qs.0, zip_both R P Q S to xs ys rs.1 ps.1 qs.1)

pub zip_map : {X Y : Type 0} (R : X → Type 0) (P : X → Y → Type 0) (f : X → Y) → ((x : X) → R x → P x (f x)) → (xs : List X) → AllByRecursion R xs → AllZip P xs (map f xs)
zip_map R P f to [] rs = tt
zip_map R P f to (x ∷ xs) rs = (to x rs.0, zip_map R P f to xs rs.1)

pub zip_get : {X Y : Type 0} (P : X → Y → Type 0) (xs : List X) (ys : List Y) (k : ℕ) (x : X) → AllZip P xs ys → slice_get xs k ≡ Some x → (y : Y) × (slice_get ys k ≡ Some y) × P x y
zip_get P [] ys k x all e = absurd cc
zip_get P (z ∷ xs) [] k x all e = absurd all
zip_get P (z ∷ xs) (y ∷ ys) zero x all e = let same : z ≡ x = cc in (y, refl, rw (← same) all.0)
zip_get P (z ∷ xs) (y ∷ ys) (suc k) x all e = zip_get P xs ys k x all.1 e

-- a choice for each element
pub zip_choose : {X Y : Type 0} (P Q : X → Y → Type 0) (xs : List X) → AllByRecursion (λ x. (y : Y) × P x y × Q x y) xs → (ys : List Y) × AllZip P xs ys × AllZip Q xs ys
zip_choose P Q [] all = ([], tt, tt)
zip_choose P Q (x ∷ xs) all = let rest = zip_choose P Q xs all.1 in (all.0.0 ∷ rest.0, (all.0.1, rest.1), (all.0.2, rest.2))

pub all_or : {X : Type 0} (P : X → Type 0) → ((x : X) → P x ⊎ (¬ P x)) → (xs : List X) → AllByRecursion P xs ⊎ (¬ AllByRecursion P xs)
all_or P or [] = inl tt
all_or P or (x ∷ xs) = by (or x) (all_or P or xs)
  where
    by : P x ⊎ (¬ P x) → AllByRecursion P xs ⊎ (¬ AllByRecursion P xs) → AllByRecursion P (x ∷ xs) ⊎ (¬ AllByRecursion P (x ∷ xs))
    by (inl here) (inl all) = inl (here, all)
    by (inl here) (inr out) = inr (λ h. out h.1)
    by (inr out) rest = inr (λ h. out h.0)
