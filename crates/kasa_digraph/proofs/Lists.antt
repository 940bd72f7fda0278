-- Membership as a test, and what holds at each place of a list.
use Rattle.std.proofs.Common.{◌≡◌, ◌<◌, ◌≤◌, ◌+◌, ℕ, zero, suc, List, [], ◌∷◌, ◌++◌, Bool, true, false, ◌||◌, length, take, get_or, nat_eq, refl, sym, subst, ◌∙◌, arith, ◌⊎◌, inl, inr}
use Rattle.std.proofs.lemmas.Bool.{eqb-true, cases_lt}
use Rattle.std.proofs.lemmas.Cmp.{nat_eq_equiv}
use Rattle.std.proofs.lemmas.List.{take_more, take-append-le, take_at, get_or_append_left, get_or_push, length_push}
use Rattle.std.proofs.lemmas.List.Folds.{list_any-append}
use Rattle.kasa_digraph.specs.Graph.{has}

pub true_false : {A : Type 0} → true ≡ false → A
true_false e = absurd (let no : ⊥ = cc in no)

pub true_or_false : (b : Bool) → (b ≡ true) ⊎ (b ≡ false)
true_or_false true = inl refl
true_or_false false = inr refl

pub is_false : (b : Bool) → ((b ≡ true) → ⊥) → b ≡ false
is_false b not_so = elim (true_or_false b) [ inl e ↦ absurd (not_so e) | inr e ↦ e ]

or_cases : (a b : Bool) → (a || b) ≡ true → (a ≡ true) ⊎ (b ≡ true)
or_cases true b e = inl refl
or_cases false b e = inr e

or_left : (a b : Bool) → a ≡ true → (a || b) ≡ true
or_left true b e = refl
or_left false b e = true_false (sym e)

or_right : (a b : Bool) → b ≡ true → (a || b) ≡ true
or_right true b e = refl
or_right false b e = e

pub same : (x : ℕ) → nat_eq x x ≡ true
same x = nat_eq_equiv.refl x

pub in_cons : (x : ℕ) (xs : List ℕ) (y : ℕ) → has (x ∷ xs) y ≡ true → (y ≡ x) ⊎ (has xs y ≡ true)
in_cons x xs y h = elim (or_cases (nat_eq y x) (has xs y) h) [ inl e ↦ inl (eqb-true y x e) | inr e ↦ inr e ]

pub in_head : (x : ℕ) (xs : List ℕ) → has (x ∷ xs) x ≡ true
in_head x xs = or_left (nat_eq x x) (has xs x) (same x)

pub in_tail : (x : ℕ) (xs : List ℕ) (y : ℕ) → has xs y ≡ true → has (x ∷ xs) y ≡ true
in_tail x xs y h = or_right (nat_eq y x) (has xs y) h

pub in_append : (xs ys : List ℕ) (y : ℕ) → has (xs ++ ys) y ≡ true → (has xs y ≡ true) ⊎ (has ys y ≡ true)
in_append xs ys y h = or_cases (has xs y) (has ys y) (sym (list_any-append (nat_eq y) xs ys) ∙ h)

pub in_left : (xs ys : List ℕ) (y : ℕ) → has xs y ≡ true → has (xs ++ ys) y ≡ true
in_left xs ys y h = list_any-append (nat_eq y) xs ys ∙ or_left (has xs y) (has ys y) h

pub in_right : (xs ys : List ℕ) (y : ℕ) → has ys y ≡ true → has (xs ++ ys) y ≡ true
in_right xs ys y h = list_any-append (nat_eq y) xs ys ∙ or_right (has xs y) (has ys y) h

pub in_push : (xs : List ℕ) (x y : ℕ) → has (xs ++ x ∷ []) y ≡ true → (has xs y ≡ true) ⊎ (y ≡ x)
in_push xs x y h = elim (in_append xs (x ∷ []) y h) [
  | inl e ↦ inl e
  | inr e ↦ elim (in_cons x [] y e) [ inl is ↦ inr is | inr bad ↦ true_false (sym bad) ]
]

pub in_last : (xs : List ℕ) (x : ℕ) → has (xs ++ x ∷ []) x ≡ true
in_last xs x = in_right xs (x ∷ []) x (in_head x [])

pub not_in_push : (xs : List ℕ) (x y : ℕ) → has xs y ≡ false → (y ≡ x → ⊥) → has (xs ++ x ∷ []) y ≡ false
not_in_push xs x y out ne = is_false (has (xs ++ x ∷ []) y) (λ h. elim (in_push xs x y h) [ inl e ↦ true_false (sym e ∙ out) | inr e ↦ ne e ])

-- where a number stands
pub place : (xs : List ℕ) (y : ℕ) → has xs y ≡ true → (k : ℕ) × (k < length xs) × (get_or xs k 0 ≡ y)
place [] y h = true_false (sym h)
place (x ∷ xs) y h = elim (in_cons x xs y h) [
  | inl e ↦ (0, omega arith, sym e)
  | inr e ↦ (let p = place xs y e in (suc p.0, omega (arith, p.1), p.2))
]

pub in_at : (xs : List ℕ) (k : ℕ) → k < length xs → has xs (get_or xs k 0) ≡ true
in_at [] k h = absurd (omega arith)
in_at (x ∷ xs) zero h = in_head x xs
in_at (x ∷ xs) (suc k) h = in_tail x xs (get_or xs k 0) (in_at xs k (omega arith))

pub in_take : (k : ℕ) (xs : List ℕ) (y : ℕ) → has (take k xs) y ≡ true → has xs y ≡ true
in_take zero xs y h = true_false (sym h)
in_take (suc k) [] y h = true_false (sym h)
in_take (suc k) (x ∷ xs) y h = elim (in_cons x (take k xs) y h) [
  | inl e ↦ (let P : ℕ → Type 0 = λ z. has (x ∷ xs) z ≡ true in subst P (sym e) (in_head x xs))
  | inr e ↦ in_tail x xs y (in_take k xs y e)
]

pub in_taken : (xs : List ℕ) (j k : ℕ) → j < k → k ≤ length xs → has (take k xs) (get_or xs j 0) ≡ true
in_taken [] j k h l = absurd (omega arith)
in_taken (x ∷ xs) j zero h l = absurd (omega arith)
in_taken (x ∷ xs) zero (suc k) h l = in_head x (take k xs)
in_taken (x ∷ xs) (suc j) (suc k) h l = in_tail x (take k xs) (get_or xs j 0) (in_taken xs j k (omega arith) (omega arith))

-- what holds at each place, of the ones before it and it, holds after a push
pub at_push : (P : List ℕ → ℕ → Type 0) (xs : List ℕ) (x : ℕ) → ((k : ℕ) → k < length xs → P (take k xs) (get_or xs k 0)) → P xs x →
    (k : ℕ) → k < length (xs ++ x ∷ []) → P (take k (xs ++ x ∷ [])) (get_or (xs ++ x ∷ []) k 0)
at_push P xs x all here k h = elim (cases_lt k (length xs)) [
  | inl below ↦ subst (λ (ys : List ℕ). P ys (get_or (xs ++ x ∷ []) k 0)) (sym (take-append-le k xs (x ∷ []) (omega arith)))
      (subst (λ (y : ℕ). P (take k xs) y) (sym (get_or_append_left xs (x ∷ []) 0 k below)) (all k below))
  | inr above ↦ (let is : length xs ≡ k = omega (arith, length_push xs x) in
      subst (λ (ys : List ℕ). P ys (get_or (xs ++ x ∷ []) k 0)) (sym (take_at xs (x ∷ []) k is))
      (subst (λ (y : ℕ). P xs y) (sym (get_or_push xs x 0 k is)) here))
]

-- one more place
pub taken_back : (xs : List ℕ) (k y : ℕ) → k < length xs → has (take (k + 1) xs) y ≡ true → (has (take k xs) y ≡ true) ⊎ (y ≡ get_or xs k 0)
taken_back xs k y h e = in_push (take k xs) (get_or xs k 0) y (subst (λ (ys : List ℕ). has ys y ≡ true) (take_more xs k 0 h) e)

pub taken_kept : (xs : List ℕ) (k y : ℕ) → k < length xs → has (take k xs) y ≡ true → has (take (k + 1) xs) y ≡ true
taken_kept xs k y h e = subst (λ (ys : List ℕ). has ys y ≡ true) (sym (take_more xs k 0 h)) (in_left (take k xs) (get_or xs k 0 ∷ []) y e)

pub taken_here : (xs : List ℕ) (k y : ℕ) → k < length xs → y ≡ get_or xs k 0 → has (take (k + 1) xs) y ≡ true
taken_here xs k y h is = subst (λ (ys : List ℕ). has ys y ≡ true) (sym (take_more xs k 0 h))
    (let P : ℕ → Type 0 = λ z. has (take k xs ++ get_or xs k 0 ∷ []) z ≡ true in subst P (sym is) (in_last (take k xs) (get_or xs k 0)))

pub has_some : (xs : List ℕ) (q : ℕ) → has xs q ≡ true → 0 < length xs
has_some [] q h = true_false (sym h)
has_some (x ∷ xs) q h = omega arith
