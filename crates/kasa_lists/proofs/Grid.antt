-- A change in a grid is seen at its two numbers alone. An element need not keep each list: it keeps the updates of its own.
use Rattle.std.proofs.Common.{◌≡◌, ◌≢◌, ℕ, zero, suc, List, [], ◌∷◌, length, map, refl, ap}
use Rattle.std.specs.Prelude.{Option, Some, option_map, option_and_then}
use Rattle.kasa_lists.specs.Lists.{update}
use Rattle.kasa_lists.specs.Grid.{at_both, change}
use Rattle.kasa_lists.proofs.Updates.{slice_get-update_same, slice_get-update_other, length-update, update-same, map-update, option_map-update, option_then-update}

module _ {A X : Type 0} (inner : A → List X) (put : A → List X → A) (law : (a : A) (s : ℕ) (f : X → X) → inner (put a (update (inner a) s f)) ≡ update (inner a) s f) where
  pub at_both-change_same : (xs : List A) (n s : ℕ) (f : X → X) → at_both inner (change inner put xs n s f) n s ≡ option_map f (at_both inner xs n s)
  at_both-change_same [] n s f = refl
  at_both-change_same (x ∷ xs) zero s f = rw (law x s f) (slice_get-update_same (inner x) s f)
  at_both-change_same (x ∷ xs) (suc n) s f = at_both-change_same xs n s f

  pub at_both-change_other : (xs : List A) (n s k u : ℕ) (f : X → X) → (n ≡ k → s ≢ u) → at_both inner (change inner put xs n s f) k u ≡ at_both inner xs k u
  at_both-change_other [] n s k u f ne = refl
  at_both-change_other (x ∷ xs) zero s zero u f ne = rw (law x s f) (slice_get-update_other (inner x) s u f (ne refl))
  at_both-change_other (x ∷ xs) zero s (suc k) u f ne = refl
  at_both-change_other (x ∷ xs) (suc n) s zero u f ne = refl
  at_both-change_other (x ∷ xs) (suc n) s (suc k) u f ne = at_both-change_other xs n s k u f (λ e. ne (ap suc e))

  pub lengths-change : (xs : List A) (n s : ℕ) (f : X → X) → map (λ a. length (inner a)) (change inner put xs n s f) ≡ map (λ a. length (inner a)) xs
  lengths-change xs n s f = map-update (λ a. put a (update (inner a) s f)) (λ a. length (inner a)) (λ a. rw (law a s f) (length-update (inner a) s f)) xs n

  -- what the change leaves of each inner element
  pub then-change : {Y : Type 0} (h : X → Option Y) (f : X → X) → ((x : X) → h (f x) ≡ h x) → (xs : List A) (n s k u : ℕ) → option_and_then h (at_both inner (change inner put xs n s f) k u) ≡ option_and_then h (at_both inner xs k u)
  then-change h f same [] n s k u = refl
  then-change h f same (x ∷ xs) zero s zero u = rw (law x s f) (option_then-update f h same (inner x) s u)
  then-change h f same (x ∷ xs) zero s (suc k) u = refl
  then-change h f same (x ∷ xs) (suc n) s zero u = refl
  then-change h f same (x ∷ xs) (suc n) s (suc k) u = then-change h f same xs n s k u

  pub map-change : {Y : Type 0} (h : X → Y) (f : X → X) → ((x : X) → h (f x) ≡ h x) → (xs : List A) (n s k u : ℕ) → option_map h (at_both inner (change inner put xs n s f) k u) ≡ option_map h (at_both inner xs k u)
  map-change h f same [] n s k u = refl
  map-change h f same (x ∷ xs) zero s zero u = rw (law x s f) (option_map-update f h same (inner x) s u)
  map-change h f same (x ∷ xs) zero s (suc k) u = refl
  map-change h f same (x ∷ xs) (suc n) s zero u = refl
  map-change h f same (x ∷ xs) (suc n) s (suc k) u = map-change h f same xs n s k u

-- two changes by one value are the same
pub change-same : {A X : Type 0} (inner : A → List X) (put : A → List X → A) (xs : List A) (n s : ℕ) (x : X) (f h : X → X) → at_both inner xs n s ≡ Some x → f x ≡ h x → change inner put xs n s f ≡ change inner put xs n s h
change-same inner put [] n s x f h at e = refl
change-same inner put (a ∷ xs) zero s x f h at e = ap (λ r. put a r ∷ xs) (update-same (inner a) s x f h at e)
change-same inner put (a ∷ xs) (suc n) s x f h at e = ap (λ r. a ∷ r) (change-same inner put xs n s x f h at e)
