-- Labels that spread over a graph. A point that has none has the label `far`.
use Rattle.std.specs.Prelude.{◌≡◌, ◌≢◌, ℕ, ◌+◌, ◌⊎◌, List, length, true, nat_eq, slice_index, if◌then◌else◌}
use Rattle.std.specs.List.{sum_by}
use Rattle.kasa_digraph.specs.Graph.{has}

abbrev pub far : ℕ
far = 4294967295

abbrev pub is_far : ℕ → ℕ
is_far n = if nat_eq n far then 1 else 0

-- how many points have no label
abbrev pub unknown : List ℕ → ℕ
unknown labels = sum_by is_far labels

-- the points at `IsSource` that had no label have this one now, and were added to `before`
pub record IsSpread (IsSource : ℕ → Type 0) (label : ℕ) (old new before after : List ℕ) : Type 0 where
  pub size : length new ≡ length old
  pub cases : (y : ℕ) → (slice_index new y ≡ slice_index old y) ⊎ ((slice_index old y ≡ far) × (slice_index new y ≡ label) × (has after y ≡ true) × IsSource y)
  pub found : (y : ℕ) → has after y ≡ true → (has before y ≡ true) ⊎ ((slice_index old y ≡ far) × (slice_index new y ≡ label))
  pub kept : (y : ℕ) → has before y ≡ true → has after y ≡ true
  pub reached : (y : ℕ) → IsSource y → slice_index new y ≢ far
  pub count : unknown new + length after ≡ unknown old + length before
