-- What is added to lists, one step after another.
use Rattle.std.proofs.Common.{◌≡◌, ℕ, zero, suc, ◌+◌, ◌⊎◌, inl, inr, List, [], ◌∷◌, ◌++◌, refl, ap, subst, arith}
use Rattle.std.specs.Prelude.{Option, Some, None, slice_get, ◌↔◌}
use Rattle.kasa_graph.specs.Lists.{Has}
use Rattle.kasa_graph.proofs.ListLemmas.{same_or_not, Has-append, Has-left, Has-right}
use Rattle.kasa_polymers.specs.declared.map.Bond.{Bond}
use Rattle.kasa_polymers.specs.declared.map.StateSeen.{StateSeen}
use Rattle.kasa_polymers.specs.declared.gather.Seen.{Seen}
use Rattle.kasa_polymers.specs.inner.Gather.{Adds, AddsSeen, Below}

Has-one : {X : Type 0} (y x : X) → Has (y ∷ []) x → y ≡ x
Has-one y x (k, e) = by_place k e
  where
    by_place : (k : ℕ) → slice_get (y ∷ []) k ≡ Some x → y ≡ x
    by_place zero e = cc
    by_place (suc k) e = absurd cc

module _ {X : Type 0} where
  pub Adds-none : (P : X → Type 0) (xs : List X) → ((x : X) → ¬ P x) → Adds P xs xs
  Adds-none P xs none x = (λ h. inl h, λ o. elim o [ inl h ↦ h | inr p ↦ absurd (none x p) ])

  pub Adds-push : (P : X → Type 0) (xs : List X) (y : X) → ((x : X) → P x ↔ (y ≡ x)) → Adds P xs (xs ++ y ∷ [])
  Adds-push P xs y is x = (
    λ h. elim (Has-append xs (y ∷ []) x h) [ inl old ↦ inl old | inr new ↦ inr ((is x).1 (Has-one y x new)) ],
    λ o. elim o [ inl old ↦ Has-left xs (y ∷ []) x old | inr p ↦ Has-right xs (y ∷ []) x (0, ap Some ((is x).0 p)) ],
  )

  -- an element that may be there
  pub Adds-some : (o : Option X) (xs ys : List X) → ((y : X) → o ≡ Some y → ys ≡ xs ++ y ∷ []) → (o ≡ None → ys ≡ xs) → Adds (λ x. o ≡ Some x) xs ys
  Adds-some None xs ys pushed same = rw (same refl) (Adds-none (λ x. None ≡ Some x) xs (λ x e. cc))
  Adds-some (Some y) xs ys pushed same = rw (pushed y refl) (Adds-push (λ x. Some y ≡ Some x) xs y (λ x. (λ e. cc, λ e. ap Some e)))

  pub Adds-then : (P Q : X → Type 0) (xs ys zs : List X) → Adds P xs ys → Adds Q ys zs → Adds (λ x. P x ⊎ Q x) xs zs
  Adds-then P Q xs ys zs first second x = (
    λ h. elim ((second x).0 h) [
      | inl old ↦ elim ((first x).0 old) [ inl older ↦ inl older | inr p ↦ inr (inl p) ]
      | inr q ↦ inr (inr q)
    ],
    λ o. elim o [
      | inl old ↦ (second x).1 (inl ((first x).1 (inl old)))
      | inr (inl p) ↦ (second x).1 (inl ((first x).1 (inr p)))
      | inr (inr q) ↦ (second x).1 (inr q)
    ],
  )

  pub Adds-same : (P Q : X → Type 0) (xs ys : List X) → ((x : X) → P x ↔ Q x) → Adds P xs ys → Adds Q xs ys
  Adds-same P Q xs ys same added x = (
    λ h. elim ((added x).0 h) [ inl old ↦ inl old | inr p ↦ inr ((same x).0 p) ],
    λ o. elim o [ inl old ↦ (added x).1 (inl old) | inr q ↦ (added x).1 (inr ((same x).1 q)) ],
  )

  pub Below-none : (P : ℕ → X → Type 0) (x : X) → ¬ Below P 0 x
  Below-none P x (k, h, p) = omega arith

  pub Below-more : (P : ℕ → X → Type 0) (n : ℕ) (x : X) → (Below P n x ⊎ P n x) ↔ Below P (n + 1) x
  Below-more P n x = (
    λ o. elim o [ inl (k, h, p) ↦ (k, (omega arith), p) | inr p ↦ (n, (omega arith), p) ],
    λ (k, h, p). elim (same_or_not k n) [ inl e ↦ inr (subst (λ (j : ℕ). P j x) e p) | inr ne ↦ inl (k, (omega arith), p) ],
  )

module _ (P : ℕ → Bond → Type 0) (Q : ℕ → StateSeen → Type 0) where
  pub AddsSeen-start : (seen : Seen) → AddsSeen (Below P 0) (Below Q 0) seen seen
  AddsSeen-start seen = record { bonds = Adds-none (Below P 0) seen.bonds.items (Below-none P); states = Adds-none (Below Q 0) seen.states.items (Below-none Q) }

  pub AddsSeen-more : (k : ℕ) (first middle last : Seen) → AddsSeen (Below P k) (Below Q k) first middle → AddsSeen (P k) (Q k) middle last → AddsSeen (Below P (k + 1)) (Below Q (k + 1)) first last
  AddsSeen-more k first middle last before now = record {
    bonds = Adds-same (λ p. Below P k p ⊎ P k p) (Below P (k + 1)) first.bonds.items last.bonds.items (Below-more P k) (Adds-then (Below P k) (P k) first.bonds.items middle.bonds.items last.bonds.items before.bonds now.bonds);
    states = Adds-same (λ q. Below Q k q ⊎ Q k q) (Below Q (k + 1)) first.states.items last.states.items (Below-more Q k) (Adds-then (Below Q k) (Q k) first.states.items middle.states.items last.states.items before.states now.states);
  }

pub AddsSeen-same : (P P' : Bond → Type 0) (Q Q' : StateSeen → Type 0) (first last : Seen) → ((p : Bond) → P p ↔ P' p) → ((q : StateSeen) → Q q ↔ Q' q) → AddsSeen P Q first last → AddsSeen P' Q' first last
AddsSeen-same P P' Q Q' first last bonds states added = record {
  bonds = Adds-same P P' first.bonds.items last.bonds.items bonds added.bonds;
  states = Adds-same Q Q' first.states.items last.states.items states added.states;
}

pub AddsSeen-then : (P P' : Bond → Type 0) (Q Q' : StateSeen → Type 0) (first middle last : Seen) → AddsSeen P Q first middle → AddsSeen P' Q' middle last → AddsSeen (λ p. P p ⊎ P' p) (λ q. Q q ⊎ Q' q) first last
AddsSeen-then P P' Q Q' first middle last before now = record {
  bonds = Adds-then P P' first.bonds.items middle.bonds.items last.bonds.items before.bonds now.bonds;
  states = Adds-then Q Q' first.states.items middle.states.items last.states.items before.states now.states;
}

pub AddsSeen-none : (P : Bond → Type 0) (Q : StateSeen → Type 0) (seen : Seen) → ((p : Bond) → ¬ P p) → ((q : StateSeen) → ¬ Q q) → AddsSeen P Q seen seen
AddsSeen-none P Q seen bonds states = record { bonds = Adds-none P seen.bonds.items bonds; states = Adds-none Q seen.states.items states }
