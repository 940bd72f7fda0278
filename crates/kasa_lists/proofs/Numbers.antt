-- Numbers of elements.
use Rattle.std.proofs.Common.{◌≡◌, ◌≢◌, ℕ, zero, suc, ◌+◌, ◌<◌, ◌⊎◌, inl, inr, refl, ap, arith}

-- two numbers are equal, or not
pub same_or_not : (i j : ℕ) → (i ≡ j) ⊎ (i ≢ j)
same_or_not zero zero = inl refl
same_or_not zero (suc j) = inr (λ e. cc)
same_or_not (suc i) zero = inr (λ e. cc)
same_or_not (suc i) (suc j) = elim (same_or_not i j) [ inl e ↦ inl (ap suc e) | inr ne ↦ inr (λ (e : suc i ≡ suc j). ne cc) ]

-- so are two pairs
pub same_both_or_not : (n s k u : ℕ) → (n ≡ k) × (s ≡ u) ⊎ (n ≡ k → s ≢ u)
same_both_or_not n s k u =
    elim (same_or_not n k) [
      | inl e ↦ elim (same_or_not s u) [ inl f ↦ inl (e, f) | inr ne ↦ inr (λ _. ne) ]
      | inr ne ↦ inr (λ e. absurd (ne e))
    ]

-- a number is below another, or so much above
pub below_or : (c n : ℕ) → (c < n) ⊎ ((k : ℕ) × (n + k ≡ c))
below_or c zero = inr (c, omega arith)
below_or zero (suc n) = inl (omega arith)
below_or (suc c) (suc n) = elim (below_or c n) [ inl h ↦ inl (omega arith) | inr k ↦ inr (k.0, let e = k.1 in omega arith) ]

-- below the next number: below, or equal
pub less_or : (s n : ℕ) → s < n + 1 → (s < n) ⊎ (s ≡ n)
less_or s n h = elim (below_or s n) [ inl less ↦ inl less | inr above ↦ let e : n + above.0 ≡ s = above.1 in inr (omega arith) ]
