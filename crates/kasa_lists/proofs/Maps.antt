-- Maps, and maps that see the numbers of the elements.
use Rattle.std.proofs.Common.{◌≡◌, ℕ, zero, suc, ◌+◌, List, [], ◌∷◌, ◌++◌, length, map, refl, ap, ◌∙◌, arith}
use Rattle.std.specs.Prelude.{Some, slice_get, option_map}
use Rattle.kasa_lists.specs.Lists.{map_from}

pub length-map : {X Y : Type 0} (f : X → Y) (xs : List X) → length (map f xs) ≡ length xs
length-map f [] = refl
length-map f (x ∷ xs) = rw (length-map f xs)

pub map-push : {X Y : Type 0} (f : X → Y) (xs : List X) (x : X) → map f (xs ++ x ∷ []) ≡ map f xs ++ f x ∷ []
map-push f [] x = refl
map-push f (y ∷ xs) x = ap (λ ys. f y ∷ ys) (map-push f xs x)

-- a map that changes no element
pub map-same : {X : Type 0} (h : X → X) (xs : List X) → ((i : ℕ) (x : X) → slice_get xs i ≡ Some x → h x ≡ x) → map h xs ≡ xs
map-same h [] same = refl
map-same h (x ∷ xs) same = ap (λ r. r ∷ map h xs) (same zero x refl) ∙ ap (λ r. x ∷ r) (map-same h xs (λ i y at. same (suc i) y at))

pub slice_get-map_from : {X Y : Type 0} (f : ℕ → X → Y) (xs : List X) (k i j : ℕ) → k + i ≡ j → slice_get (map_from k f xs) i ≡ option_map (f j) (slice_get xs i)
slice_get-map_from f [] k i j e = refl
slice_get-map_from f (x ∷ xs) k zero j e = let same : k ≡ j = omega arith in rw same refl
slice_get-map_from f (x ∷ xs) k (suc i) j e = slice_get-map_from f xs (suc k) i j (omega arith)

pub length-map_from : {X Y : Type 0} (f : ℕ → X → Y) (xs : List X) (k : ℕ) → length (map_from k f xs) ≡ length xs
length-map_from f [] k = refl
length-map_from f (x ∷ xs) k = ap suc (length-map_from f xs (suc k))

pub map_from-push : {X Y : Type 0} (f : ℕ → X → Y) (k n : ℕ) (xs : List X) (x : X) → k + length xs ≡ n → map_from k f (xs ++ x ∷ []) ≡ map_from k f xs ++ f n x ∷ []
map_from-push f k n [] x e = let same : k ≡ n = omega arith in rw same refl
map_from-push f k n (y ∷ xs) x e = ap (λ ys. f k y ∷ ys) (map_from-push f (suc k) n xs x (omega arith))
