-- The verdict in the midst of its steps: what the lists say of the step graph, and the largest sum of a type so far.
use Rattle.std.specs.Prelude.{◌≡◌, ℕ, ◌<◌, ◌≤◌, ◌⊎◌, ◌↔◌, ◌^◌, true, List, length, min, slice_index}
use Rattle.std.specs.List.{AllPairs}
use Rattle.kasa_digraph.specs.Graph.{has}
use Rattle.kasa_digraph.specs.Weight.{IsWeight}
use Rattle.kasa_digraph.specs.FirstCycle.{IsFirstCycle}
use Rattle.kasa_graph.specs.Lists.{Has}
use Rattle.kasa_graph.specs.Signature.{state_counts}
use Rattle.kasa_rules.specs.declared.model.Model.{Model}
use Rattle.kasa_families.specs.Table.{Table}
use Rattle.kasa_polymers.specs.declared.map.Bond.{Bond}
use Rattle.kasa_polymers.specs.declared.map.Polymers.{Polymers}
use Rattle.kasa_polymers.specs.declared.map.Polymers.TheVariants.{Cycle}
use Rattle.kasa_polymers.specs.Order.{IsBondBelow}
use Rattle.kasa_polymers.specs.StepGraph.{IsPoint, IsAllowedType}
use Rattle.kasa_polymers.specs.inner.Steps.{AreSteps, AreAt}

-- the lists have the points of the step graph and its steps
pub record IsGraphOf (model : Model) (tables : List Table) (points : List Bond) (size : ℕ) (next : ℕ → List ℕ) : Type 0 where
  pub listed : (p : Bond) → Has points p ↔ IsPoint model tables p
  pub ascend : AllPairs IsBondBelow points
  pub whole : size ≡ length points
  pub steps : AreSteps model.sig tables points next

-- the verdict is the first cycle, found by numbers
abbrev pub IsCycleOf : List Bond → (ℕ → List ℕ) → Polymers → Type 0
IsCycleOf points next (Cycle walk) = (numbers : List ℕ) × IsFirstCycle next numbers × AreAt points numbers walk
IsCycleOf points next _ = ⊥

-- the values are the weights, where 2 ^ 64 says: at least that
abbrev pub AreCappedBy : (ℕ → ℕ) → List ℕ → Type 0
AreCappedBy weight values = (q : ℕ) → q < length values → slice_index values q ≡ min (weight q) (2 ^ 64)

-- the number of each point that leads from one of so many types has the property
abbrev pub AllOfTypes : ℕ → (ℕ → List ℕ) → (ℕ → ℕ → Type 0) → Type 0
AllOfTypes types by_type P = (a q : ℕ) → a < types → has (by_type a) q ≡ true → P a q

-- the site by which each point goes on is one of its type
abbrev pub IsSiteOf : Model → List ℕ → ℕ → ℕ → Type 0
IsSiteOf model sites a q = slice_index sites q < length (state_counts model.sig a)

-- n is the sum of a type
abbrev pub IsSumOf : Model → (ℕ → ℕ) → (ℕ → ℕ) → (ℕ → List ℕ) → ℕ → ℕ → Type 0
IsSumOf model group weight next a n = IsWeight group weight (next a) (length (state_counts model.sig a)) n

-- n is the sum of a type that is allowed, cut off, or 0 where the type isn't
abbrev pub IsCappedSum : Model → List Table → (ℕ → ℕ) → (ℕ → ℕ) → (ℕ → List ℕ) → ℕ → ℕ → Type 0
IsCappedSum model tables group weight next a n =
    (IsAllowedType model tables a × ((k : ℕ) × IsSumOf model group weight next a k × (n ≡ min k (2 ^ 64)))) ⊎
    ((¬ IsAllowedType model tables a) × (n ≡ 0))

-- n is the largest sum of the first so many types, cut off
pub record IsLargestSum (model : Model) (tables : List Table) (group weight : ℕ → ℕ) (next : ℕ → List ℕ) (types n : ℕ) : Type 0 where
  pub most : ℕ
  pub largest : (a : ℕ) → a < types → IsAllowedType model tables a → (k : ℕ) × IsSumOf model group weight next a k × (k ≤ most)
  pub reached : (most ≡ 0) ⊎ ((a : ℕ) × IsAllowedType model tables a × IsSumOf model group weight next a most)
  pub capped : n ≡ min most (2 ^ 64)

-- the same, whatever the weights are that the values stand for
abbrev pub IsSumFrom : Model → List Table → List ℕ → List ℕ → (ℕ → List ℕ) → ℕ → ℕ → Type 0
IsSumFrom model tables sites values by_type a n =
    (weight : ℕ → ℕ) → AreCappedBy weight values → IsCappedSum model tables (slice_index sites) weight by_type a n

abbrev pub IsLargestFrom : Model → List Table → List ℕ → List ℕ → (ℕ → List ℕ) → ℕ → Type 0
IsLargestFrom model tables sites values by_type n =
    (weight : ℕ → ℕ) → AreCappedBy weight values →
    IsLargestSum model tables (slice_index sites) weight by_type (length model.sig) n
