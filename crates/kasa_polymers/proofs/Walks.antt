-- Where the step graph has no closed walk, each walk ends within as many steps as there are points.
use Rattle.std.proofs.Common.{◌≡◌, ◌≢◌, ℕ, zero, suc, ◌+◌, ◌≤◌, ◌⊎◌, inl, inr, List, [], ◌∷◌, ◌++◌, length, ap, subst, arith}
use Rattle.std.specs.Prelude.{Some, slice_get}
use Rattle.kasa_graph.specs.Lists.{Has, AllDifferent}
use Rattle.kasa_graph.proofs.ListLemmas.{same_or_not, AllDifferent-cons, AllDifferent-[]}
use Rattle.kasa_rules.specs.declared.model.Model.{Model}
use Rattle.kasa_families.specs.Table.{Table}
use Rattle.kasa_polymers.specs.declared.map.Bond.{Bond}
use Rattle.kasa_polymers.specs.StepGraph.{IsPoint, IsEdge, IsWalk, IsClosedWalk}
use Rattle.kasa_polymers.proofs.Different.{length-different}
use Rattle.kasa_polymers.proofs.OrderLemmas.{bond_same}

-- ---- two bonds are equal, or not

same_bond_or_not : (p q : Bond) → (p ≡ q) ⊎ (p ≢ q)
same_bond_or_not p q = elim (same_or_not p.a q.a) [
  | inr ne ↦ inr (λ e. ne (ap (λ (r : Bond). r.a) e))
  | inl a ↦ elim (same_or_not p.x q.x) [
    | inr ne ↦ inr (λ e. ne (ap (λ (r : Bond). r.x) e))
    | inl x ↦ elim (same_or_not p.b q.b) [
      | inr ne ↦ inr (λ e. ne (ap (λ (r : Bond). r.b) e))
      | inl b ↦ elim (same_or_not p.y q.y) [
        | inr ne ↦ inr (λ e. ne (ap (λ (r : Bond). r.y) e))
        | inl y ↦ inl (bond_same p q a x b y)
      ]
    ]
  ]
]

out-cons : (p q : Bond) (ps : List Bond) → q ≢ p → ((i : ℕ) → slice_get ps i ≢ Some p) → (i : ℕ) → slice_get (q ∷ ps) i ≢ Some p
out-cons p q ps ne out zero e = ne cc
out-cons p q ps ne out (suc i) e = out i e

pub listed_or_not : (ps : List Bond) (p : Bond) → Has ps p ⊎ ((i : ℕ) → slice_get ps i ≢ Some p)
listed_or_not [] p = inr (λ i e. cc)
listed_or_not (q ∷ ps) p = elim (same_bond_or_not q p) [
  | inl e ↦ inl (zero, ap Some e)
  | inr ne ↦ elim (listed_or_not ps p) [ inl has ↦ inl (suc has.0, has.1) | inr out ↦ inr (out-cons p q ps ne out) ]
]

-- ---- walks

module _ (model : Model) (tables : List Table) where
  walk_on : (xs : List Bond) (s p q : Bond) → IsWalk model tables (s ∷ xs) p → IsEdge model tables p q → IsWalk model tables (s ∷ (xs ++ p ∷ [])) q
  walk_on [] s p q walk edge = (walk, edge)
  walk_on (x ∷ xs) s p q walk edge = (walk.0, walk_on xs x p q walk.1 edge)

  -- no walk from p has so many steps
  abbrev pub Ends : ℕ → Bond → Type 0
  Ends zero p = ⊥
  Ends (suc k) p = (q : Bond) → IsEdge model tables p q → Ends k q

  -- s is a point from which a walk leads to p; and so is each of the bonds
  abbrev LeadsTo : Bond → Bond → Type 0
  LeadsTo s p = IsPoint model tables s × ((xs : List Bond) × IsWalk model tables (s ∷ xs) p)

  abbrev LeadTo : List Bond → Bond → Type 0
  LeadTo seen p = (s : Bond) (k : ℕ) → slice_get seen k ≡ Some s → LeadsTo s p

  lead_on : (seen : List Bond) (p q : Bond) → LeadTo seen p → IsEdge model tables p q → LeadTo (p ∷ seen) q
  lead_on seen p q lead edge s zero e = let same : p ≡ s = cc in subst (λ (r : Bond). LeadsTo r q) same (edge.from, ([], edge))
  lead_on seen p q lead edge s (suc k) e = let l = lead s k e in (l.0, (l.1.0 ++ p ∷ [], walk_on l.1.0 s p q l.1.1 edge))

  module _ (points : List Bond) (listed : (p : Bond) → IsPoint model tables p → Has points p) (none : (walk : List Bond) → ¬ IsClosedWalk model tables walk) where
    -- a step back to a point of the walk would close it
    not_back : (seen : List Bond) (p q : Bond) (k : ℕ) → LeadTo seen p → IsEdge model tables p q → slice_get (p ∷ seen) k ≢ Some q
    not_back seen p q k lead edge e = let l = lead_on seen p q lead edge q k e in none (q ∷ l.1.0) l.1.1

    no_room : (seen : List Bond) (p : Bond) → AllDifferent (p ∷ seen) → IsPoint model tables p → LeadTo seen p → ¬ (length points ≤ length seen)
    no_room seen p different point lead small =
        let h = length-different (p ∷ seen) points different (λ s has. listed s (point_of s has.0 has.1)) in omega arith
      where
        point_of : (s : Bond) (k : ℕ) → slice_get (p ∷ seen) k ≡ Some s → IsPoint model tables s
        point_of s zero e = let same : p ≡ s = cc in rw same at point
        point_of s (suc k) e = (lead s k e).0

    ends : (k : ℕ) (seen : List Bond) (p : Bond) → AllDifferent (p ∷ seen) → IsPoint model tables p → LeadTo seen p → length points ≤ k + length seen → Ends k p
    ends zero seen p different point lead small = no_room seen p different point lead (omega arith)
    ends (suc k) seen p different point lead small = λ q edge.
        ends k (p ∷ seen) q (AllDifferent-cons q (p ∷ seen) (λ i. not_back seen p q i lead edge) different) edge.to (lead_on seen p q lead edge) (omega arith)

    pub Ends-point : (p : Bond) → IsPoint model tables p → Ends (length points) p
    Ends-point p point = ends (length points) [] p (AllDifferent-cons p [] (λ i e. cc) AllDifferent-[]) point (λ s k e. absurd cc) (omega arith)
