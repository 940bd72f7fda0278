-- Where the nodes of a root stood before a firing: their places, which are different.
use Rattle.std.proofs.Common.{◌≡◌, ℕ, zero, suc, ◌<◌, ◌≤◌, ◌⊎◌, inl, inr, List, [], ◌∷◌, refl, sym, ap, ◌∙◌, length, arith}
use Rattle.std.specs.Prelude.{⊤, Option, Some, None, slice_get}
use Rattle.std.specs.List.{AllByRecursion}
use Rattle.std.proofs.lemmas.Option.{slice_get_within}
use Rattle.kasa_graph.specs.declared.pattern.Node.{Node}
use Rattle.kasa_graph.specs.Pattern.{agent_at, types_of}
use Rattle.kasa_graph.proofs.TestLemmas.{agent_at-types}
use Rattle.std.proofs.lemmas.List.{length-map}
use Rattle.kasa_rules.specs.Rule.{RuleParts}
use Rattle.kasa_pre.specs.declared.Stand.{Stand}
use Rattle.kasa_pre.specs.declared.Stand.TheVariants.{Left, Made, Outside}
use Rattle.kasa_pre.specs.Before.{place_from, place_of, AreStands}
use Rattle.kasa_pre.specs.Asked.{ArePlaces}

-- a node with the stand was there before
abbrev pub WasThere : Stand → Type 0
WasThere (Left n) = ⊤
WasThere (Made k) = ⊥
WasThere Outside = ⊤

-- the places of nodes that all were there before
abbrev pub place_list : ℕ → List Stand → List ℕ
place_list k [] = []
place_list k (Left n ∷ stands) = n ∷ place_list k stands
place_list k (Made j ∷ stands) = 0 ∷ place_list k stands
place_list k (Outside ∷ stands) = k ∷ place_list (suc k) stands

pub length-place_list : (k : ℕ) (stands : List Stand) → length (place_list k stands) ≡ length stands
length-place_list k [] = refl
length-place_list k (Left n ∷ stands) = ap suc (length-place_list k stands)
length-place_list k (Made j ∷ stands) = ap suc (length-place_list k stands)
length-place_list k (Outside ∷ stands) = ap suc (length-place_list (suc k) stands)

pub place_list-at : (k : ℕ) (stands : List Stand) → AllByRecursion WasThere stands → (i p : ℕ) → slice_get (place_list k stands) i ≡ Some p → place_from k stands i ≡ Some p
place_list-at k [] there i p e = absurd cc
place_list-at k (Left n ∷ stands) there zero p e = e
place_list-at k (Left n ∷ stands) there (suc i) p e = place_list-at k stands there.1 i p e
place_list-at k (Made j ∷ stands) there i p e = absurd there.0
place_list-at k (Outside ∷ stands) there zero p e = e
place_list-at k (Outside ∷ stands) there (suc i) p e = place_list-at (suc k) stands there.1 i p e

pub place_list-of : (k : ℕ) (stands : List Stand) (i p : ℕ) → place_from k stands i ≡ Some p → slice_get (place_list k stands) i ≡ Some p
place_list-of k [] i p e = absurd cc
place_list-of k (Left n ∷ stands) zero p e = e
place_list-of k (Left n ∷ stands) (suc i) p e = place_list-of k stands i p e
place_list-of k (Made j ∷ stands) zero p e = absurd cc
place_list-of k (Made j ∷ stands) (suc i) p e = place_list-of k stands i p e
place_list-of k (Outside ∷ stands) zero p e = e
place_list-of k (Outside ∷ stands) (suc i) p e = place_list-of (suc k) stands i p e

-- ---- different nodes have different places

-- the node is a left one of the place, or one outside whose place is at least k
comes_from : (k : ℕ) (stands : List Stand) (i p : ℕ) → place_from k stands i ≡ Some p → (slice_get stands i ≡ Some (Left p)) ⊎ ((slice_get stands i ≡ Some Outside) × (k ≤ p))
comes_from k [] i p e = absurd cc
comes_from k (Left n ∷ stands) zero p e = let same : n ≡ p = cc in inl (ap (λ (x : ℕ). Some (Left x)) same)
comes_from k (Left n ∷ stands) (suc i) p e = comes_from k stands i p e
comes_from k (Made j ∷ stands) zero p e = absurd cc
comes_from k (Made j ∷ stands) (suc i) p e = comes_from k stands i p e
comes_from k (Outside ∷ stands) zero p e = let same : k ≡ p = cc in inr (refl, omega arith)
comes_from k (Outside ∷ stands) (suc i) p e = elim (comes_from (suc k) stands i p e) [
  | inl at ↦ inl at
  | inr at ↦ inr (at.0, omega arith)
]

-- two nodes outside at one place are one node
one_outside : (k : ℕ) (stands : List Stand) (i j p : ℕ) → slice_get stands i ≡ Some Outside → slice_get stands j ≡ Some Outside → place_from k stands i ≡ Some p → place_from k stands j ≡ Some p → i ≡ j
one_outside k [] i j p at at' e f = absurd cc
one_outside k (Left n ∷ stands) zero j p at at' e f = absurd cc
one_outside k (Left n ∷ stands) (suc i) zero p at at' e f = absurd cc
one_outside k (Left n ∷ stands) (suc i) (suc j) p at at' e f = ap suc (one_outside k stands i j p at at' e f)
one_outside k (Made n ∷ stands) zero j p at at' e f = absurd cc
one_outside k (Made n ∷ stands) (suc i) zero p at at' e f = absurd cc
one_outside k (Made n ∷ stands) (suc i) (suc j) p at at' e f = ap suc (one_outside k stands i j p at at' e f)
one_outside k (Outside ∷ stands) zero zero p at at' e f = refl
one_outside k (Outside ∷ stands) zero (suc j) p at at' e f = elim (comes_from (suc k) stands j p f) [
  | inl left ↦ absurd cc
  | inr far ↦ let same : k ≡ p = cc in absurd (let more = far.1 in omega arith)
]
one_outside k (Outside ∷ stands) (suc i) zero p at at' e f = elim (comes_from (suc k) stands i p e) [
  | inl left ↦ absurd cc
  | inr far ↦ let same : k ≡ p = cc in absurd (let more = far.1 in omega arith)
]
one_outside k (Outside ∷ stands) (suc i) (suc j) p at at' e f = ap suc (one_outside (suc k) stands i j p at at' e f)

module _ (r : RuleParts) (v : List Node) (stands : List Stand) (ok : AreStands r v stands) where
  left_within : (i n a : ℕ) → slice_get stands i ≡ Some (Left n) → agent_at v i ≡ Some a → n < length r.left
  left_within i n a at typed =
      let there : slice_get (types_of r.left) n ≡ Some a = sym (agent_at-types r.left n) ∙ (ok.fit i a (Left n) at typed).1 in
      rw (← length-map r.left (λ (x : Node). x.agent)) (slice_get_within (types_of r.left) n a there)

  -- so nodes at one place are one
  pub one_place : (i j a b p : ℕ) → agent_at v i ≡ Some a → agent_at v j ≡ Some b → place_of r stands i ≡ Some p → place_of r stands j ≡ Some p → i ≡ j
  unfolding place_of
  one_place i j a b p typed typed' e f = by (comes_from (length r.left) stands i p e) (comes_from (length r.left) stands j p f)
    where
      by : (slice_get stands i ≡ Some (Left p)) ⊎ ((slice_get stands i ≡ Some Outside) × (length r.left ≤ p)) → (slice_get stands j ≡ Some (Left p)) ⊎ ((slice_get stands j ≡ Some Outside) × (length r.left ≤ p)) → i ≡ j
      by (inl at) (inl at') = ok.different i j (Left p) (λ e. absurd cc) at at'
      by (inl at) (inr at') = absurd (let small = left_within i p a at typed in let far = at'.1 in omega arith)
      by (inr at) (inl at') = absurd (let small = left_within j p b at' typed' in let far = at.1 in omega arith)
      by (inr at) (inr at') = one_outside (length r.left) stands i j p at.0 at'.0 e f

-- ---- which nodes were there

pub has_place : (r : RuleParts) (stands : List Stand) (i : ℕ) (stand : Stand) → slice_get stands i ≡ Some stand → WasThere stand → (p : ℕ) × (place_of r stands i ≡ Some p)
unfolding place_of
has_place r stands i stand at there = find (length r.left) stands i at
  where
    find : (k : ℕ) (stands : List Stand) (i : ℕ) → slice_get stands i ≡ Some stand → (p : ℕ) × (place_from k stands i ≡ Some p)
    find k [] i at = absurd cc
    find k (Left n ∷ stands) zero at = (n, refl)
    find k (Left n ∷ stands) (suc i) at = find k stands i at
    find k (Made n ∷ stands) zero at = let same : Made n ≡ stand = cc in absurd (rw (← same) at there)
    find k (Made n ∷ stands) (suc i) at = find k stands i at
    find k (Outside ∷ stands) zero at = (k, refl)
    find k (Outside ∷ stands) (suc i) at = find (suc k) stands i at

pub there_or_made : (stands : List Stand) → AllByRecursion WasThere stands ⊎ ((i k : ℕ) × (slice_get stands i ≡ Some (Made k)))
there_or_made [] = inl tt
there_or_made (Made k ∷ stands) = inr (0, k, refl)
there_or_made (Left n ∷ stands) = elim (there_or_made stands) [ inl there ↦ inl (tt, there) | inr made ↦ inr (suc made.0, made.1, made.2) ]
there_or_made (Outside ∷ stands) = elim (there_or_made stands) [ inl there ↦ inl (tt, there) | inr made ↦ inr (suc made.0, made.1, made.2) ]

-- the places as options, as kasa_pre reads them
abbrev places_from : ℕ → List Stand → List (Option ℕ)
places_from k [] = []
places_from k (Left n ∷ stands) = Some n ∷ places_from k stands
places_from k (Made j ∷ stands) = None ∷ places_from k stands
places_from k (Outside ∷ stands) = Some k ∷ places_from (suc k) stands

length-places_from : (k : ℕ) (stands : List Stand) → length (places_from k stands) ≡ length stands
length-places_from k [] = refl
length-places_from k (Left n ∷ stands) = ap suc (length-places_from k stands)
length-places_from k (Made n ∷ stands) = ap suc (length-places_from k stands)
length-places_from k (Outside ∷ stands) = ap suc (length-places_from (suc k) stands)

places_from-at : (k : ℕ) (stands : List Stand) (i : ℕ) → i < length stands → slice_get (places_from k stands) i ≡ Some (place_from k stands i)
places_from-at k [] i within = absurd (omega arith)
places_from-at k (Left n ∷ stands) zero within = refl
places_from-at k (Left n ∷ stands) (suc i) within = places_from-at k stands i (omega arith)
places_from-at k (Made n ∷ stands) zero within = refl
places_from-at k (Made n ∷ stands) (suc i) within = places_from-at k stands i (omega arith)
places_from-at k (Outside ∷ stands) zero within = refl
places_from-at k (Outside ∷ stands) (suc i) within = places_from-at (suc k) stands i (omega arith)

pub all_places : (r : RuleParts) (stands : List Stand) → (places : List (Option ℕ)) × ArePlaces r stands places
unfolding place_of
all_places r stands = (places_from (length r.left) stands, (length-places_from (length r.left) stands, places_from-at (length r.left) stands))

-- a node at the place of a left node is that one
pub left_at : (r : RuleParts) (stands : List Stand) (i p : ℕ) → place_of r stands i ≡ Some p → p < length r.left → slice_get stands i ≡ Some (Left p)
unfolding place_of
left_at r stands i p e within = elim (comes_from (length r.left) stands i p e) [
  | inl at ↦ at
  | inr at ↦ absurd (let far = at.1 in omega arith)
]
