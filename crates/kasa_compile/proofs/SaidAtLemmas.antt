-- What an agent says of a site.
use Rattle.std.proofs.Common.{◌≡◌, ◌≢◌, ℕ, zero, suc, true, false, nat_eq, List, [], ◌∷◌, ◌++◌, map, take, refl, ◌∙◌, ◌⊎◌, inl, inr}
use Rattle.std.specs.Prelude.{Some, None, slice_get}
use Rattle.std.proofs.lemmas.Bool.Decides.{eqb_tells}
use Rattle.std.proofs.lemmas.Option.{slice_get-map}
use Rattle.kasa_graph.specs.Lists.{AllDifferent}
use Rattle.kasa_graph.proofs.ListLemmas.{AllDifferent-tail, AllDifferent-head}
use Rattle.kasa_compile.specs.declared.said.SiteSaid.{SiteSaid}
use Rattle.kasa_compile.specs.Bonds.{said_at}

-- the number of a site
abbrev number_of : SiteSaid → ℕ
number_of x = x.site

pub said_at-found : (sites : List SiteSaid) (s : ℕ) (x : SiteSaid) → said_at sites s ≡ Some x → (i : ℕ) × (slice_get sites i ≡ Some x) × (x.site ≡ s)
said_at-found [] s x e = absurd cc
said_at-found (y ∷ sites) s x e = elim (eqb_tells y.site s) [
  | inl h ↦ let same : Some y ≡ Some x = rw h.0 at e in let is : y ≡ x = cc in (0, same, rw (← is) h.1)
  | inr h ↦ let there = said_at-found sites s x (rw h.0 at e) in (suc there.0, there.1, there.2)
]

pub said_at-of : (sites : List SiteSaid) (i : ℕ) (x : SiteSaid) → AllDifferent (map (λ (s : SiteSaid). s.site) sites) → slice_get sites i ≡ Some x → said_at sites x.site ≡ Some x
said_at-of [] i x differ at = absurd cc
said_at-of (y ∷ sites) zero x differ at = let same : y ≡ x = cc in rw same (by (eqb_tells x.site x.site))
  where
    by : ((nat_eq x.site x.site ≡ true) × (x.site ≡ x.site)) ⊎ ((nat_eq x.site x.site ≡ false) × (x.site ≢ x.site)) → said_at (x ∷ sites) x.site ≡ Some x
    by (inl h) = rw h.0 refl
    by (inr h) = absurd (h.1 refl)
said_at-of (y ∷ sites) (suc i) x differ at = elim (eqb_tells y.site x.site) [
  | inl h ↦ absurd (AllDifferent-head y.site (map number_of sites) i differ (slice_get-map number_of sites i ∙ rw (at, h.1) refl))
  | inr h ↦ rw h.0 (said_at-of sites i x (AllDifferent-tail y.site (map number_of sites) differ) at)
]

-- nothing is said of a site before it stands
pub said_at-before : (sites : List SiteSaid) (i : ℕ) (x : SiteSaid) → AllDifferent (map (λ (s : SiteSaid). s.site) sites) → slice_get sites i ≡ Some x → said_at (take i sites) x.site ≡ None
said_at-before [] i x differ at = absurd cc
said_at-before (y ∷ sites) zero x differ at = refl
said_at-before (y ∷ sites) (suc i) x differ at = elim (eqb_tells y.site x.site) [
  | inl h ↦ absurd (AllDifferent-head y.site (map number_of sites) i differ (slice_get-map number_of sites i ∙ rw (at, h.1) refl))
  | inr h ↦ rw h.0 (said_at-before sites i x (AllDifferent-tail y.site (map number_of sites) differ) at)
]

-- one site more
pub said_at-push_same : (sites : List SiteSaid) (x : SiteSaid) → said_at sites x.site ≡ None → said_at (sites ++ x ∷ []) x.site ≡ Some x
said_at-push_same [] x none = elim (eqb_tells x.site x.site) [ inl h ↦ rw h.0 refl | inr h ↦ absurd (h.1 refl) ]
said_at-push_same (y ∷ sites) x none = elim (eqb_tells y.site x.site) [
  | inl h ↦ let no : Some y ≡ None = rw h.0 at none in absurd cc
  | inr h ↦ rw h.0 (said_at-push_same sites x (rw h.0 at none))
]

pub said_at-push_other : (sites : List SiteSaid) (x : SiteSaid) (s : ℕ) → x.site ≢ s → said_at (sites ++ x ∷ []) s ≡ said_at sites s
said_at-push_other [] x s ne = elim (eqb_tells x.site s) [ inl h ↦ absurd (ne h.1) | inr h ↦ rw h.0 refl ]
said_at-push_other (y ∷ sites) x s ne = elim (eqb_tells y.site s) [
  | inl h ↦ rw h.0 refl
  | inr h ↦ rw h.0 (said_at-push_other sites x s ne)
]
