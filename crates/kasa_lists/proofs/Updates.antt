-- Updates of one element.
use Rattle.std.proofs.Common.{◌≡◌, ◌≢◌, ℕ, zero, suc, ◌<◌, ◌⊎◌, inl, inr, List, [], ◌∷◌, length, map, refl, ap, sym, ◌∙◌}
use Rattle.std.specs.Prelude.{Option, Some, slice_get, slice_index_or, slice_set, option_map, option_and_then}
use Rattle.std.proofs.lemmas.Option.{slice_get-get_or}
use Rattle.kasa_lists.specs.Lists.{update, Has}

-- an update is seen at its own place alone
pub slice_get-update_same : {X : Type 0} (xs : List X) (i : ℕ) (f : X → X) → slice_get (update xs i f) i ≡ option_map f (slice_get xs i)
slice_get-update_same [] i f = refl
slice_get-update_same (x ∷ xs) zero f = refl
slice_get-update_same (x ∷ xs) (suc i) f = slice_get-update_same xs i f

pub slice_get-update_other : {X : Type 0} (xs : List X) (i j : ℕ) (f : X → X) → i ≢ j → slice_get (update xs i f) j ≡ slice_get xs j
slice_get-update_other [] i j f ne = refl
slice_get-update_other (x ∷ xs) zero zero f ne = absurd (ne refl)
slice_get-update_other (x ∷ xs) zero (suc j) f ne = refl
slice_get-update_other (x ∷ xs) (suc i) zero f ne = refl
slice_get-update_other (x ∷ xs) (suc i) (suc j) f ne = slice_get-update_other xs i j f (λ e. ne (ap suc e))

pub length-update : {X : Type 0} (xs : List X) (i : ℕ) (f : X → X) → length (update xs i f) ≡ length xs
length-update [] i f = refl
length-update (x ∷ xs) zero f = refl
length-update (x ∷ xs) (suc i) f = ap suc (length-update xs i f)

-- ---- updates that are the same

-- by one value
pub update-same : {X : Type 0} (xs : List X) (i : ℕ) (x : X) (f h : X → X) → slice_get xs i ≡ Some x → f x ≡ h x → update xs i f ≡ update xs i h
update-same [] i x f h at e = refl
update-same (z ∷ xs) zero x f h at e = let same : z ≡ x = cc in ap (λ r. r ∷ xs) (rw same e)
update-same (z ∷ xs) (suc i) x f h at e = ap (λ r. z ∷ r) (update-same xs i x f h at e)

-- by functions that agree
pub update-alike : {X : Type 0} (xs : List X) (i : ℕ) (f h : X → X) → ((x : X) → f x ≡ h x) → update xs i f ≡ update xs i h
update-alike [] i f h e = refl
update-alike (z ∷ xs) zero f h e = ap (λ r. r ∷ xs) (e z)
update-alike (z ∷ xs) (suc i) f h e = ap (λ r. z ∷ r) (update-alike xs i f h e)

-- writing f of an element is an update
pub slice_set-update : {X : Type 0} (xs : List X) (i : ℕ) (x y : X) (f : X → X) → slice_get xs i ≡ Some x → f x ≡ y → slice_set xs i y ≡ update xs i f
slice_set-update [] i x y f at e = refl
slice_set-update (z ∷ xs) zero x y f at e = let same : z ≡ x = cc in rw (same, e)
slice_set-update (z ∷ xs) (suc i) x y f at e = ap (λ r. z ∷ r) (slice_set-update xs i x y f at e)

pub slice_set-read : {X : Type 0} (xs : List X) (i : ℕ) (d : X) (f : X → X) → i < length xs → slice_set xs i (f (slice_index_or xs i d)) ≡ update xs i f
slice_set-read xs i d f within = slice_set-update xs i _ _ f (slice_get-get_or xs i d within) refl

pub slice_set-at : {X : Type 0} (xs : List X) (i : ℕ) (x : X) (f : X → X) → x ≡ slice_index_or xs i x → i < length xs → slice_set xs i (f x) ≡ update xs i f
slice_set-at xs i x f is within = slice_set-update xs i x (f x) f (slice_get-get_or xs i x within ∙ ap Some (sym is)) refl

-- ---- what an update keeps

-- at the element that it meets
pub map-update_same : {X Y : Type 0} (h : X → Y) (f : X → X) (xs : List X) (i : ℕ) (x : X) → slice_get xs i ≡ Some x → h (f x) ≡ h x → map h (update xs i f) ≡ map h xs
map-update_same h f [] i x at e = refl
map-update_same h f (z ∷ xs) zero x at e = let same : z ≡ x = cc in ap (λ r. r ∷ map h xs) (rw same e)
map-update_same h f (z ∷ xs) (suc i) x at e = ap (λ r. h z ∷ r) (map-update_same h f xs i x at e)

-- of each element
module _ {A Y : Type 0} (g : A → A) (h : A → Y) (same : (a : A) → h (g a) ≡ h a) where
  pub map-update : (xs : List A) (n : ℕ) → map h (update xs n g) ≡ map h xs
  map-update [] n = refl
  map-update (x ∷ xs) zero = ap (λ y. y ∷ map h xs) (same x)
  map-update (x ∷ xs) (suc n) = ap (λ ys. h x ∷ ys) (map-update xs n)

  pub option_map-update : (xs : List A) (n k : ℕ) → option_map h (slice_get (update xs n g) k) ≡ option_map h (slice_get xs k)
  option_map-update [] n k = refl
  option_map-update (x ∷ xs) zero zero = ap Some (same x)
  option_map-update (x ∷ xs) zero (suc k) = refl
  option_map-update (x ∷ xs) (suc n) zero = refl
  option_map-update (x ∷ xs) (suc n) (suc k) = option_map-update xs n k

pub option_then-update : {A Y : Type 0} (g : A → A) (h : A → Option Y) → ((a : A) → h (g a) ≡ h a) → (xs : List A) (n k : ℕ) → option_and_then h (slice_get (update xs n g) k) ≡ option_and_then h (slice_get xs k)
option_then-update g h same [] n k = refl
option_then-update g h same (x ∷ xs) zero zero = same x
option_then-update g h same (x ∷ xs) zero (suc k) = refl
option_then-update g h same (x ∷ xs) (suc n) zero = refl
option_then-update g h same (x ∷ xs) (suc n) (suc k) = option_then-update g h same xs n k

pub all-update : {A : Type 0} (P : A → Type 0) (g : A → A) → ((a : A) → P a → P (g a)) → (xs : List A) (n : ℕ) → ((k : ℕ) (x : A) → slice_get xs k ≡ Some x → P x) → (k : ℕ) (x : A) → slice_get (update xs n g) k ≡ Some x → P x
all-update P g keeps [] n all k x e = absurd cc
all-update P g keeps (y ∷ ys) zero all zero x e = let same : g y ≡ x = cc in rw (← same) (keeps y (all zero y refl))
all-update P g keeps (y ∷ ys) zero all (suc k) x e = all (suc k) x e
all-update P g keeps (y ∷ ys) (suc n) all zero x e = all zero x e
all-update P g keeps (y ∷ ys) (suc n) all (suc k) x e = all-update P g keeps ys n (λ j z f. all (suc j) z f) k x e

-- an element is the updated one, or was there
pub Has-update : {X : Type 0} (xs : List X) (i : ℕ) (g : X → X) (t u : X) → slice_get xs i ≡ Some t → Has (update xs i g) u → (u ≡ g t) ⊎ Has xs u
Has-update [] i g t u at has = absurd cc
Has-update (z ∷ xs) zero g t u at (zero, e) = inl cc
Has-update (z ∷ xs) zero g t u at (suc k, e) = inr (suc k, e)
Has-update (z ∷ xs) (suc i) g t u at (zero, e) = inr (0, e)
Has-update (z ∷ xs) (suc i) g t u at (suc k, e) = elim (Has-update xs i g t u at (k, e)) [ inl same ↦ inl same | inr h ↦ inr (suc h.0, h.1) ]
