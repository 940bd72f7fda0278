-- The step graph as lists: the points in order, and for each the numbers of the points to which a step leads.
use Rattle.std.specs.Prelude.{◌≡◌, ◌≢◌, ℕ, ◌<◌, ◌↔◌, ⊤, true, List, [], ◌∷◌, length, Some, slice_get}
use Rattle.kasa_digraph.specs.Graph.{has}
use Rattle.kasa_graph.specs.Lists.{Has}
use Rattle.kasa_graph.specs.Signature.{TypeEntry, HasSite}
use Rattle.kasa_families.specs.Table.{Table}
use Rattle.kasa_pre.specs.Allowed.{IsAllowed}
use Rattle.kasa_polymers.specs.declared.map.Bond.{Bond}
use Rattle.kasa_polymers.specs.StepGraph.{bond_pattern, step_pattern}

-- the types and the sites of the bond are there
pub record IsBondOver (sig : List TypeEntry) (p : Bond) : Type 0 where
  pub first : p.a < length sig
  pub second : p.b < length sig
  pub first_site : HasSite sig p.a p.x
  pub second_site : HasSite sig p.b p.y

-- the bonds are over the signature
abbrev pub AreBondsOver : List TypeEntry → List Bond → Type 0
AreBondsOver sig bonds = (p : Bond) → Has bonds p → IsBondOver sig p

-- the points are those of the bonds whose pattern is allowed
abbrev pub AreAllowed : List TypeEntry → List Table → List Bond → List Bond → Type 0
AreAllowed sig tables bonds points = (p : Bond) → Has points p ↔ (Has bonds p × IsAllowed sig tables (bond_pattern sig p))

-- the numbers are those of the points with the property
abbrev pub AreNumbers : List Bond → (Bond → Type 0) → List ℕ → Type 0
AreNumbers points P numbers = (j : ℕ) → (has numbers j ≡ true) ↔ ((q : Bond) × (slice_get points j ≡ Some q) × P q)

-- for each type, the numbers of the points that lead from it
abbrev pub AreListedByType : List Bond → ℕ → (ℕ → List ℕ) → Type 0
AreListedByType points types by_type = (a : ℕ) → a < types → AreNumbers points (λ q. q.a ≡ a) (by_type a)

-- from one bond a step leads to the other, if both are points
pub record IsStepAllowed (sig : List TypeEntry) (tables : List Table) (p q : Bond) : Type 0 where
  pub goes_on : p.b ≡ q.a
  pub other_site : q.x ≢ p.y
  pub allowed : IsAllowed sig tables (step_pattern sig p q)

-- next has the steps from each point
abbrev pub AreSteps : List TypeEntry → List Table → List Bond → (ℕ → List ℕ) → Type 0
AreSteps sig tables points next = (i : ℕ) (p : Bond) → slice_get points i ≡ Some p → AreNumbers points (IsStepAllowed sig tables p) (next i)

-- the bonds are the points of these numbers
abbrev pub AreAt : List Bond → List ℕ → List Bond → Type 0
AreAt points [] [] = ⊤
AreAt points (i ∷ is) (p ∷ ps) = (slice_get points i ≡ Some p) × AreAt points is ps
AreAt points _ _ = ⊥
