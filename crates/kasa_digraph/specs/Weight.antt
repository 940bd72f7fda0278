-- Weights: a point weighs 1 and, for each group, as much as the heaviest of its successors in that group.
use Rattle.std.specs.Prelude.{◌≡◌, ℕ, ◌<◌, ◌≤◌, ◌+◌, ◌^◌, ◌⊎◌, List, length, sum, true, min, slice_index}
use Rattle.kasa_digraph.specs.Graph.{has}

-- n is the largest weight of those that have the property, or 0 where there is none
abbrev pub IsLargest : (ℕ → Type 0) → (ℕ → ℕ) → ℕ → Type 0
IsLargest P weight n = ((q : ℕ) → P q → weight q ≤ n) × ((n ≡ 0) ⊎ ((q : ℕ) × P q × (weight q ≡ n)))

-- one share for each of so many groups of the points: the largest weight in the group
abbrev pub AreShares : (ℕ → ℕ) → (ℕ → ℕ) → List ℕ → ℕ → List ℕ → Type 0
AreShares group weight points groups shares =
    (length shares ≡ groups) × ((z : ℕ) → z < groups → IsLargest (λ q. (has points q ≡ true) × (group q ≡ z)) weight (slice_index shares z))

-- n is 1 and the shares
abbrev pub IsWeight : (ℕ → ℕ) → (ℕ → ℕ) → List ℕ → ℕ → ℕ → Type 0
IsWeight group weight points groups n = (shares : List ℕ) × AreShares group weight points groups shares × (n ≡ 1 + sum shares)

-- each of the first n points has its weight; `groups` says how many groups the successors of a point have, `group` to which a point belongs
abbrev pub IsWeighing : (ℕ → List ℕ) → ℕ → (ℕ → ℕ) → (ℕ → ℕ) → (ℕ → ℕ) → Type 0
IsWeighing next n group groups weight = (p : ℕ) → p < n → IsWeight group weight (next p) (groups p) (weight p)

-- the values of the points are their weights, where 2 ^ 64 says: at least that
abbrev pub AreCapped : (ℕ → ℕ) → List ℕ → (ℕ → ℕ) → Type 0
AreCapped weight points value = (q : ℕ) → has points q ≡ true → value q ≡ min (weight q) (2 ^ 64)

abbrev pub IsCappedWeight : (ℕ → ℕ) → (ℕ → ℕ) → List ℕ → ℕ → ℕ → Type 0
IsCappedWeight group weight points groups n = (k : ℕ) × IsWeight group weight points groups k × (n ≡ min k (2 ^ 64))

-- the same of all points of a graph
pub record AreWeights (next : ℕ → List ℕ) (n : ℕ) (group groups : ℕ → ℕ) (values : List ℕ) : Type 0 where
  pub weight : ℕ → ℕ
  pub weighing : IsWeighing next n group groups weight
  pub capped : (p : ℕ) → p < n → slice_index values p ≡ min (weight p) (2 ^ 64)
