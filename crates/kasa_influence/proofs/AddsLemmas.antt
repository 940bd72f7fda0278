-- What is added to lists, one step after another.
use Rattle.std.proofs.Common.{◌≡◌, ℕ, zero, suc, ◌+◌, ◌<◌, ◌⊎◌, inl, inr, List, [], ◌∷◌, ◌++◌, ap, subst, arith}
use Rattle.std.specs.Prelude.{Some, slice_get, ◌↔◌}
use Rattle.kasa_lists.proofs.Numbers.{same_or_not}
use Rattle.kasa_lists.proofs.Having.{Has-append, Has-left, Has-right}
use Rattle.kasa_graph.specs.Lists.{Has}
use Rattle.kasa_influence.specs.inner.Search.{Adds}

Has-one : {X : Type 0} (y x : X) → Has (y ∷ []) x → y ≡ x
Has-one y x (k, e) = by_place k e
  where
    by_place : (k : ℕ) → slice_get (y ∷ []) k ≡ Some x → y ≡ x
    by_place zero e = cc
    by_place (suc k) e = absurd cc

-- a number below n has the property
abbrev pub Below : {X : Type 0} → (ℕ → X → Type 0) → ℕ → X → Type 0
Below {X} P n x = (k : ℕ) × (k < n) × P k x

module _ {X : Type 0} where
  pub Adds-none : (P : X → Type 0) (xs : List X) → ((x : X) → ¬ P x) → Adds P xs xs
  Adds-none P xs none x = (λ h. inl h, λ o. elim o [ inl h ↦ h | inr p ↦ absurd (none x p) ])

  pub Adds-push : (P : X → Type 0) (xs : List X) (y : X) → ((x : X) → P x ↔ (y ≡ x)) → Adds P xs (xs ++ y ∷ [])
  Adds-push P xs y is x = (
    λ h. elim (Has-append xs (y ∷ []) x h) [ inl old ↦ inl old | inr new ↦ inr ((is x).1 (Has-one y x new)) ],
    λ o. elim o [ inl old ↦ Has-left xs (y ∷ []) x old | inr p ↦ Has-right xs (y ∷ []) x (0, ap Some ((is x).0 p)) ],
  )

  pub Adds-then : (P Q : X → Type 0) (xs ys zs : List X) → Adds P xs ys → Adds Q ys zs → Adds (λ x. P x ⊎ Q x) xs zs
  Adds-then P Q xs ys zs first second x = (
    λ h. elim ((second x).0 h) [
      | inl old ↦ elim ((first x).0 old) [ inl older ↦ inl older | inr p ↦ inr (inl p) ]
      | inr q ↦ inr (inr q)
    ],
    λ o. elim o [
      | inl old ↦ (second x).1 (inl ((first x).1 (inl old)))
      | inr (inl p) ↦ (second x).1 (inl ((first x).1 (inr p)))
      | inr (inr q) ↦ (second x).1 (inr q)
    ],
  )

  pub Adds-same : (P Q : X → Type 0) (xs ys : List X) → ((x : X) → P x ↔ Q x) → Adds P xs ys → Adds Q xs ys
  Adds-same P Q xs ys same added x = (
    λ h. elim ((added x).0 h) [ inl old ↦ inl old | inr p ↦ inr ((same x).0 p) ],
    λ o. elim o [ inl old ↦ (added x).1 (inl old) | inr q ↦ (added x).1 (inr ((same x).1 q)) ],
  )

  -- what is there already
  pub Adds-there : (P : X → Type 0) (xs : List X) → ((x : X) → P x → Has xs x) → Adds P xs xs
  Adds-there P xs there x = (λ h. inl h, λ o. elim o [ inl h ↦ h | inr p ↦ there x p ])

  -- where nothing was there
  pub Adds-all : (P : X → Type 0) (ys : List X) → Adds P [] ys → (x : X) → Has ys x ↔ P x
  Adds-all P ys added x = (
    λ h. elim ((added x).0 h) [ inl none ↦ absurd (let e = none.1 in cc) | inr p ↦ p ],
    λ p. (added x).1 (inr p),
  )

  pub Below-more : (P : ℕ → X → Type 0) (n : ℕ) (x : X) → (Below P n x ⊎ P n x) ↔ Below P (n + 1) x
  Below-more P n x = (
    λ o. elim o [ inl (k, h, p) ↦ (k, (omega arith), p) | inr p ↦ (n, (omega arith), p) ],
    λ (k, h, p). elim (same_or_not k n) [ inl e ↦ inr (subst (λ (j : ℕ). P j x) e p) | inr ne ↦ inl (k, (omega arith), p) ],
  )

  -- a loop over numbers: its start, and one number more
  pub Adds-start : (P : ℕ → X → Type 0) (xs : List X) → Adds (Below P 0) xs xs
  Adds-start P xs = Adds-none (Below P 0) xs (λ x (k, h, p). omega arith)

  pub Adds-more : (P : ℕ → X → Type 0) (n : ℕ) (xs ys zs : List X) → Adds (Below P n) xs ys → Adds (P n) ys zs → Adds (Below P (n + 1)) xs zs
  Adds-more P n xs ys zs before now = Adds-same (λ x. Below P n x ⊎ P n x) (Below P (n + 1)) xs zs (Below-more P n) (Adds-then (Below P n) (P n) xs ys zs before now)
