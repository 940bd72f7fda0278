-- Weights in the midst of a pass over the points.
use Rattle.std.specs.Prelude.{◌≡◌, ℕ, ◌^◌, List, true, min, max, slice_index, slice_set, replicate}
use Rattle.std.specs.List.{fold}
use Rattle.kasa_digraph.specs.Graph.{has}
use Rattle.kasa_digraph.specs.Weight.{IsWeight}

-- the weights of the points `done`, as they are below 2 ^ 64; 2 ^ 64 says: at least that
pub record AreWeighed (next : ℕ → List ℕ) (group groups : ℕ → ℕ) (done values : List ℕ) : Type 0 where
  pub weight : ℕ → ℕ
  pub weighing : (p : ℕ) → has done p ≡ true → IsWeight group weight (next p) (groups p) (weight p)
  pub capped : (p : ℕ) → has done p ≡ true → slice_index values p ≡ min (weight p) (2 ^ 64)

-- how the shares are found
abbrev pub with_share : (ℕ → ℕ) → (ℕ → ℕ) → List ℕ → ℕ → List ℕ
with_share group weight best q = slice_set best (group q) (max (slice_index best (group q)) (weight q))

abbrev pub shares_of : (ℕ → ℕ) → (ℕ → ℕ) → ℕ → List ℕ → List ℕ
shares_of group weight m qs = fold (with_share group weight) (replicate m 0) qs
