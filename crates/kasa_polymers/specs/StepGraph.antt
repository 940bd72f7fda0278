-- The step graph of possible bonds, its weights and its cycles.
use Rattle.std.specs.Prelude.{◌≡◌, ◌≢◌, ℕ, ◌+◌, ◌<◌, ◌≤◌, ◌⊎◌, List, [], ◌∷◌, length, sum, Some, slice_get}
use Rattle.kasa_graph.specs.declared.pattern.Node.{Node}
use Rattle.kasa_graph.specs.Signature.{TypeEntry}
use Rattle.kasa_graph.specs.Signature.{state_counts}
use Rattle.kasa_graph.specs.Pattern.{blank_node, with_bond}
use Rattle.kasa_rules.specs.declared.model.Model.{Model}
use Rattle.kasa_families.specs.Table.{Table}
use Rattle.kasa_pre.specs.Allowed.{IsAllowed}
use Rattle.kasa_polymers.specs.declared.map.Bond.{Bond}
use Rattle.kasa_polymers.specs.Contact.{IsContactBond}
use Rattle.kasa_polymers.specs.Order.{AreBondsBelow, FirstBelow}

-- two agents with a bond, and three with two bonds
abbrev pub bond_pattern : List TypeEntry → Bond → List Node
bond_pattern sig p = with_bond (blank_node sig p.a ∷ blank_node sig p.b ∷ []) 0 p.x 1 p.y

abbrev pub step_pattern : List TypeEntry → Bond → Bond → List Node
step_pattern sig p q = with_bond (with_bond (blank_node sig p.a ∷ blank_node sig p.b ∷ blank_node sig q.b ∷ []) 0 p.x 1 p.y) 1 q.x 2 q.y

module _ (model : Model) (tables : List Table) where
  -- a bond of the contact map whose pattern is allowed
  abbrev pub IsPoint : Bond → Type 0
  IsPoint p = IsContactBond model tables p × IsAllowed model.sig tables (bond_pattern model.sig p)

  -- a step goes on from the agent that a bond leads to, by another site
  pub record IsEdge (p q : Bond) : Type 0 where
    pub from : IsPoint p
    pub to : IsPoint q
    pub goes_on : p.b ≡ q.a
    pub other_site : q.x ≢ p.y
    pub allowed : IsAllowed model.sig tables (step_pattern model.sig p q)

  -- n is the largest number of the ones that have the property, or 0 where there is none
  abbrev pub IsLargest : (Bond → Type 0) → (Bond → ℕ) → ℕ → Type 0
  IsLargest P weight n = ((q : Bond) → P q → weight q ≤ n) × ((n ≡ 0) ⊎ ((q : Bond) × P q × (weight q ≡ n)))

  -- one share for each site of a type
  abbrev pub AreShares : ℕ → (ℕ → Bond → Type 0) → (Bond → ℕ) → List ℕ → Type 0
  AreShares a P weight shares = (length shares ≡ length (state_counts model.sig a)) × ((z n : ℕ) → slice_get shares z ≡ Some n → IsLargest (P z) weight n)

  -- the weight of a point is 1 and the shares of the sites of the agent that it leads to
  abbrev pub IsWeighing : (Bond → ℕ) → Type 0
  IsWeighing weight = (p : Bond) → IsPoint p → (shares : List ℕ) × AreShares p.b (λ z q. IsEdge p q × (q.x ≡ z)) weight shares × (weight p ≡ 1 + sum shares)

  -- the sum of a type is 1 and the largest weight at each of its sites
  abbrev pub IsTypeSum : (Bond → ℕ) → ℕ → ℕ → Type 0
  IsTypeSum weight a n = (shares : List ℕ) × AreShares a (λ x q. IsPoint q × (q.a ≡ a) × (q.x ≡ x)) weight shares × (n ≡ 1 + sum shares)

  -- a type of which an agent can be there
  abbrev pub IsAllowedType : ℕ → Type 0
  IsAllowedType a = (a < length model.sig) × IsAllowed model.sig tables (blank_node model.sig a ∷ [])

  -- each allowed type has a sum, and n is the largest of them, or 0 where there is none
  pub record IsBound (n : ℕ) : Type 0 where
    pub weight : Bond → ℕ
    pub weighing : IsWeighing weight
    pub largest : (a : ℕ) → IsAllowedType a → (k : ℕ) × IsTypeSum weight a k × (k ≤ n)
    pub reached : (n ≡ 0) ⊎ ((a : ℕ) × IsAllowedType a × IsTypeSum weight a n)

  -- each point is followed by the next, and the last by q
  abbrev pub IsWalk : List Bond → Bond → Type 0
  IsWalk [] q = ⊥
  IsWalk (p ∷ []) q = IsEdge p q
  IsWalk (p ∷ next ∷ points) q = IsEdge p next × IsWalk (next ∷ points) q

  -- a walk from its first point back to it
  abbrev pub IsClosedWalk : List Bond → Type 0
  IsClosedWalk [] = ⊥
  IsClosedWalk (p ∷ points) = IsWalk (p ∷ points) p

-- the closed walk that is given: none starts at a smaller point, and of those from its first point none is
-- shorter, and none as short comes before it
pub record IsFirstCycle (model : Model) (tables : List Table) (cycle : List Bond) : Type 0 where
  pub closed : IsClosedWalk model tables cycle
  pub least_start : (other : List Bond) → IsClosedWalk model tables other → ¬ FirstBelow other cycle
  pub shortest : (other : List Bond) → IsClosedWalk model tables other → slice_get other 0 ≡ slice_get cycle 0 → length cycle ≤ length other
  pub first : (other : List Bond) → IsClosedWalk model tables other → slice_get other 0 ≡ slice_get cycle 0 → length other ≡ length cycle → ¬ AreBondsBelow other cycle
