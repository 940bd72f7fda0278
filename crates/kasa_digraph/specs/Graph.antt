-- Graphs over numbers: edges, walks, cycles and orders.
use Rattle.std.specs.Prelude.{◌≡◌, ℕ, zero, suc, ◌<◌, ◌∷◌, [], List, Bool, true, false, length, take, nat_eq, slice_index}
use Rattle.std.specs.List.{list_any}
use Rattle.std.specs.declared.vec.Vec.{Vec}

-- the number stands in the list
abbrev pub has : List ℕ → ℕ → Bool
has xs x = list_any (nat_eq x) xs

-- the points to which an edge leads from the point
abbrev pub successors : {Z : Type 0} → List (Vec ℕ Z) → ℕ → List ℕ
successors [] p = []
successors (v ∷ vs) zero = v.items
successors (v ∷ vs) (suc p) = successors vs p

abbrev pub IsEdge : (ℕ → List ℕ) → ℕ → ℕ → Type 0
IsEdge next p q = has (next p) q ≡ true

-- each edge leads to one of the first n points
abbrev pub IsGraph : (ℕ → List ℕ) → ℕ → Type 0
IsGraph next n = (p q : ℕ) → IsEdge next p q → q < n

-- each point is followed by the next, and the last by q
abbrev pub IsWalk : (ℕ → List ℕ) → List ℕ → ℕ → Type 0
IsWalk next [] q = ⊥
IsWalk next (p ∷ []) q = IsEdge next p q
IsWalk next (p ∷ r ∷ points) q = IsEdge next p r × IsWalk next (r ∷ points) q

-- a walk of one edge or more
abbrev pub Leads : (ℕ → List ℕ) → ℕ → ℕ → Type 0
Leads next p q = (points : List ℕ) × IsWalk next (p ∷ points) q

-- a walk from its first point back to it
abbrev pub IsClosedWalk : (ℕ → List ℕ) → List ℕ → Type 0
IsClosedWalk next [] = ⊥
IsClosedWalk next (p ∷ points) = IsWalk next (p ∷ points) p

-- the graph has a cycle
abbrev pub IsCyclic : (ℕ → List ℕ) → Type 0
IsCyclic next = (walk : List ℕ) × IsClosedWalk next walk

-- each of the first n points once, and none before its successors
pub record IsOrder (next : ℕ → List ℕ) (n : ℕ) (order : List ℕ) : Type 0 where
  pub all : (p : ℕ) → p < n → has order p ≡ true
  pub within : (p : ℕ) → has order p ≡ true → p < n
  pub once : (k : ℕ) → k < length order → has (take k order) (slice_index order k) ≡ false
  pub after : (k q : ℕ) → k < length order → IsEdge next (slice_index order k) q → has (take k order) q ≡ true
