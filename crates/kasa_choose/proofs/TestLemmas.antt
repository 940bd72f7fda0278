-- What tests tell, and what filters, joined lists and ranges have.
use Rattle.std.proofs.Common.{◌≡◌, ℕ, zero, suc, ◌+◌, ◌<◌, ◌≤◌, ◌⊎◌, inl, inr, ◌↔◌, Bool, true, false, not, ◌||◌, ◌&&◌, cond, List, [], ◌∷◌, refl, ap, sym, subst, ◌∙◌, arith}
use Rattle.std.specs.Prelude.{nat_eq}
use Rattle.std.specs.List.{filter, flat_map, list_any, list_all, range_with_len}
use Rattle.std.proofs.lemmas.Bool.{eqb-true, eq-eqb}
use Rattle.kasa_lists.specs.Lists.{Has}
use Rattle.kasa_lists.proofs.Having.{Has-[], Has-head, Has-later, Has-cons, Has-append, Has-left, Has-right}
use Rattle.kasa_lists.proofs.Numbers.{same_or_not}
use Rattle.kasa_families.specs.Family.{Ascends}

-- ---- tests

pub or_told : (b c : Bool) → (b || c) ≡ true ↔ ((b ≡ true) ⊎ (c ≡ true))
or_told true c = (λ h. inl refl, λ h. refl)
or_told false c = (λ h. inr h, λ h. elim h [ inl no_true ↦ absurd cc | inr own ↦ own ])

pub and_told : (b c : Bool) → (b && c) ≡ true ↔ ((b ≡ true) × (c ≡ true))
and_told true c = (λ h. (refl, h), λ h. h.1)
and_told false c = (λ h. absurd cc, λ h. absurd (let is = h.0 in cc))

pub implies_told : (b c : Bool) → (not b || c) ≡ true ↔ (b ≡ true → c ≡ true)
implies_told true c = (λ h is. h, λ h. h refl)
implies_told false c = (λ h is. absurd cc, λ h. refl)

pub not_told : (b : Bool) → not b ≡ true ↔ (b ≡ true → ⊥)
not_told true = (λ h is. absurd cc, λ h. absurd (h refl))
not_told false = (λ h is. absurd cc, λ h. refl)

-- ---- lists by tests

module _ {X : Type 0} (p : X → Bool) where
  pub filter_has : (xs : List X) (x : X) → Has (filter p xs) x ↔ (Has xs x × (p x ≡ true))
  filter_has [] x = (λ h. absurd (Has-[] x h), λ h. absurd (Has-[] x h.0))
  filter_has (y ∷ xs) x = by (p y) refl (filter_has xs x)
    where
      by : (b : Bool) → p y ≡ b → Has (filter p xs) x ↔ (Has xs x × (p x ≡ true)) → Has (cond b (y ∷ filter p xs) (filter p xs)) x ↔ (Has (y ∷ xs) x × (p x ≡ true))
      by true e rest = (
        λ h. elim (Has-cons y (filter p xs) x h) [
          | inl is ↦ (subst (Has (y ∷ xs)) (sym is) (Has-head y xs), ap p is ∙ e)
          | inr more ↦ let own = rest.0 more in (Has-later y xs x own.0, own.1)
        ],
        λ h. elim (Has-cons y xs x h.0) [
          | inl is ↦ subst (Has (y ∷ filter p xs)) (sym is) (Has-head y (filter p xs))
          | inr more ↦ Has-later y (filter p xs) x (rest.1 (more, h.1))
        ],
      )
      by false e rest = (
        λ h. let own = rest.0 h in (Has-later y xs x own.0, own.1),
        λ h. elim (Has-cons y xs x h.0) [
          | inl is ↦ absurd (let both : true ≡ false = sym h.1 ∙ ap p is ∙ e in cc)
          | inr more ↦ rest.1 (more, h.1)
        ],
      )

  pub any_has : (xs : List X) → list_any p xs ≡ true ↔ ((x : X) × Has xs x × (p x ≡ true))
  any_has [] = (λ h. absurd cc, λ h. absurd (Has-[] h.0 h.1))
  any_has (y ∷ xs) =
      let rest = any_has xs in
      let told = or_told (p y) (list_any p xs) in (
        λ h. elim (told.0 h) [
          | inl own ↦ (y, Has-head y xs, own)
          | inr more ↦ let own = rest.0 more in (own.0, Has-later y xs own.0 own.1, own.2)
        ],
        λ h. told.1 (elim (Has-cons y xs h.0 h.1) [
          | inl is ↦ inl (ap p (sym is) ∙ h.2)
          | inr more ↦ inr (rest.1 (h.0, more, h.2))
        ]),
      )

  pub all_has : (xs : List X) → list_all p xs ≡ true ↔ ((x : X) → Has xs x → p x ≡ true)
  all_has [] = (λ h x none. absurd (Has-[] x none), λ h. refl)
  all_has (y ∷ xs) = by (p y) refl (all_has xs)
    where
      by : (b : Bool) → p y ≡ b → list_all p xs ≡ true ↔ ((x : X) → Has xs x → p x ≡ true) → list_all p (y ∷ xs) ≡ true ↔ ((x : X) → Has (y ∷ xs) x → p x ≡ true)
      by true e rest = (
        λ h x has. elim (Has-cons y xs x has) [ inl is ↦ ap p is ∙ e | inr more ↦ rest.0 (rw e at h) x more ],
        λ h. rw e (rest.1 (λ x more. h x (Has-later y xs x more))),
      )
      by false e rest = (
        λ h. absurd (let no_true : false ≡ true = rw e at h in cc),
        λ h. absurd (let both : true ≡ false = sym (h y (Has-head y xs)) ∙ e in cc),
      )

-- a number among numbers
pub has_told : (xs : List ℕ) (s : ℕ) → list_any (nat_eq s) xs ≡ true ↔ Has xs s
has_told xs s =
    let told = any_has (nat_eq s) xs in (
      λ h. let own = told.0 h in subst (Has xs) (sym (eqb-true s own.0 own.2)) own.1,
      λ has. told.1 (s, has, eq-eqb s s refl),
    )

-- ---- joined lists and ranges

pub flat_has : {X Y : Type 0} (f : X → List Y) (xs : List X) (y : Y) → Has (flat_map f xs) y ↔ ((x : X) × Has xs x × Has (f x) y)
flat_has f [] y = (λ h. absurd (Has-[] y h), λ h. absurd (Has-[] h.0 h.1))
flat_has f (x ∷ xs) y =
    let rest = flat_has f xs y in (
      λ h. elim (Has-append (f x) (flat_map f xs) y h) [
        | inl own ↦ (x, Has-head x xs, own)
        | inr more ↦ let own = rest.0 more in (own.0, Has-later x xs own.0 own.1, own.2)
      ],
      λ h. elim (Has-cons x xs h.0 h.1) [
        | inl is ↦ Has-left (f x) (flat_map f xs) y (subst (λ z. Has (f z) y) is h.2)
        | inr more ↦ Has-right (f x) (flat_map f xs) y (rest.1 (h.0, more, h.2))
      ],
    )

pub range_has : (a n k : ℕ) → Has (range_with_len a n) k ↔ ((a ≤ k) × (k < a + n))
range_has a zero k = (λ h. absurd (Has-[] k h), λ h. absurd (let low : a ≤ k = h.0 in let high : k < a + 0 = h.1 in omega arith))
range_has a (suc n) k = by (same_or_not k a) (range_has (a + 1) n k)
  where
    by : (k ≡ a) ⊎ (k ≡ a → ⊥) → Has (range_with_len (a + 1) n) k ↔ ((a + 1 ≤ k) × (k < a + 1 + n)) → Has (a ∷ range_with_len (a + 1) n) k ↔ ((a ≤ k) × (k < a + suc n))
    by (inl is) rest = (λ h. (omega arith, omega arith), λ h. subst (Has (a ∷ range_with_len (a + 1) n)) (sym is) (Has-head a (range_with_len (a + 1) n)))
    by (inr other) rest = (
      λ h. elim (Has-cons a (range_with_len (a + 1) n) k h) [
        | inl is ↦ absurd (other is)
        | inr more ↦ let own = rest.0 more in let low : a + 1 ≤ k = own.0 in let high : k < a + 1 + n = own.1 in (omega arith, omega arith)
      ],
      λ h. let low : a ≤ k = h.0 in let high : k < a + suc n = h.1 in
          Has-later a (range_with_len (a + 1) n) k (rest.1 (omega (arith, other), omega arith)),
    )

pub numbers_has : (n k : ℕ) → Has (range_with_len 0 n) k ↔ (k < n)
numbers_has n k =
    let told = range_has 0 n k in (λ h. let own : k < 0 + n = (told.0 h).1 in omega arith, λ less. told.1 (omega arith, omega arith))

Ascends-cons : (x : ℕ) (xs : List ℕ) → ((y : ℕ) → Has xs y → x < y) → Ascends xs → Ascends (x ∷ xs)
Ascends-cons x [] below up = tt
Ascends-cons x (y ∷ xs) below up = (below y (Has-head y xs), up)

-- those numbers of a range that pass a test ascend
pub Ascends-range : (p : ℕ → Bool) (a n : ℕ) → Ascends (filter p (range_with_len a n))
Ascends-range p a zero = tt
Ascends-range p a (suc n) = by (p a) (Ascends-range p (a + 1) n)
  where
    by : (b : Bool) → Ascends (filter p (range_with_len (a + 1) n)) → Ascends (cond b (a ∷ filter p (range_with_len (a + 1) n)) (filter p (range_with_len (a + 1) n)))
    by true up =
        Ascends-cons a (filter p (range_with_len (a + 1) n))
        (λ y h. let own : a + 1 ≤ y = ((range_has (a + 1) n y).0 ((filter_has p (range_with_len (a + 1) n) y).0 h).0).0 in omega arith) up
    by false up = up
