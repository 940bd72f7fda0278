-- The first cycle: from the least point on any, of the shortest ones the first in lexicographic order.
use Rattle.std.specs.Prelude.{◌≡◌, ℕ, ◌<◌, ◌≤◌, ◌⊎◌, List, [], ◌∷◌, length, slice_get}
use Rattle.kasa_digraph.specs.Graph.{IsClosedWalk}

-- the lexicographic order of lists of the same length
abbrev pub AreBelow : List ℕ → List ℕ → Type 0
AreBelow [] ys = ⊥
AreBelow (x ∷ xs) [] = ⊥
AreBelow (x ∷ xs) (y ∷ ys) = (x < y) ⊎ ((x ≡ y) × AreBelow xs ys)

-- the first point of one list is less than that of the other
abbrev pub FirstBelow : List ℕ → List ℕ → Type 0
FirstBelow [] ys = ⊥
FirstBelow (x ∷ xs) [] = ⊥
FirstBelow (x ∷ xs) (y ∷ ys) = x < y

-- none starts at a smaller point, and of those from its first point none is shorter, and none as short comes before it
pub record IsFirstCycle (next : ℕ → List ℕ) (cycle : List ℕ) : Type 0 where
  pub closed : IsClosedWalk next cycle
  pub least_start : (other : List ℕ) → IsClosedWalk next other → ¬ (FirstBelow other cycle)
  pub shortest : (other : List ℕ) → IsClosedWalk next other → slice_get other 0 ≡ slice_get cycle 0 → length cycle ≤ length other
  pub first : (other : List ℕ) → IsClosedWalk next other → slice_get other 0 ≡ slice_get cycle 0 → length other ≡ length cycle → ¬ (AreBelow other cycle)
