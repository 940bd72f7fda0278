-- How the first cycle is found: strong components, distances, and the walk by the closest successors.
use Rattle.std.specs.Prelude.{◌≡◌, ◌≢◌, ℕ, take, false, ◌++◌, suc, ◌<◌, ◌≤◌, ◌+◌, ◌⊎◌, List, [], ◌∷◌, length, true, slice_index}
use Rattle.kasa_digraph.specs.Graph.{has, IsEdge, IsWalk, Leads}
use Rattle.kasa_digraph.specs.FirstCycle.{AreBelow}
use Rattle.kasa_digraph.specs.inner.Flood.{far, unknown}

-- s and the points after it are a closed walk, the shortest and first from s
pub record IsFirstFrom (next : ℕ → List ℕ) (s : ℕ) (cycle : List ℕ) : Type 0 where
  pub tail : List ℕ
  pub parts : cycle ≡ s ∷ tail
  pub closed : IsWalk next (s ∷ tail) s
  pub shortest : (points : List ℕ) → IsWalk next (s ∷ points) s → length tail ≤ length points
  pub first : (points : List ℕ) → IsWalk next (s ∷ points) s → length points ≡ length tail → ¬ (AreBelow points tail)

pub record IsReverse (next back : ℕ → List ℕ) : Type 0 where
  pub back_to : (p q : ℕ) → IsEdge next p q → IsEdge back q p
  pub only : (p q : ℕ) → IsEdge back q p → IsEdge next p q

-- the least number of edges from a point to s; `far` where no walk leads there
pub record AreDistances (next : ℕ → List ℕ) (s : ℕ) (distances : List ℕ) : Type 0 where
  pub few : (p : ℕ) → slice_index distances p ≤ far
  pub zero : slice_index distances s ≡ 0
  pub only : (p : ℕ) → p < length distances → slice_index distances p ≡ 0 → p ≡ s
  pub step : (p e : ℕ) → slice_index distances p ≡ suc e → suc e ≢ far → (q : ℕ) × IsEdge next p q × (slice_index distances q ≡ e)
  pub near : (p q : ℕ) → IsEdge next p q → slice_index distances q ≢ far → (slice_index distances p ≢ far) × (slice_index distances p ≤ slice_index distances q + 1)

-- the same in the midst of the search: `layer` has the points at d, whose edges are still to be followed
pub record AreNear (next : ℕ → List ℕ) (n s : ℕ) (layer : List ℕ) (d : ℕ) (distances : List ℕ) : Type 0 where
  pub size : length distances ≡ n
  pub few : (p : ℕ) → slice_index distances p ≤ far
  pub zero : slice_index distances s ≡ 0
  pub only : (p : ℕ) → p < length distances → slice_index distances p ≡ 0 → p ≡ s
  pub step : (p e : ℕ) → slice_index distances p ≡ suc e → suc e ≢ far → (q : ℕ) × IsEdge next p q × (slice_index distances q ≡ e)
  pub near : (p q : ℕ) → IsEdge next p q → slice_index distances q ≢ far → (has layer q ≡ true) ⊎ ((slice_index distances p ≢ far) × (slice_index distances p ≤ slice_index distances q + 1))
  pub at_layer : (x : ℕ) → has layer x ≡ true → slice_index distances x ≡ d
  pub up_to : (x : ℕ) → slice_index distances x ≢ far → slice_index distances x ≤ d
  pub within : (x : ℕ) → has layer x ≡ true → x < n
  pub room : d + unknown distances ≤ n
  pub more_room : 0 < length layer → d + unknown distances < n

-- q is no farther than r, and as far only where it is no greater
abbrev pub IsBefore : List ℕ → ℕ → ℕ → Type 0
IsBefore distances q r = (slice_index distances q < slice_index distances r) ⊎ ((slice_index distances q ≡ slice_index distances r) × (q ≤ r))

pub record IsClosest (distances qs : List ℕ) (q : ℕ) : Type 0 where
  pub among : has qs q ≡ true
  pub least : (r : ℕ) → has qs r ≡ true → IsBefore distances q r

pub record IsStep (next : ℕ → List ℕ) (distances : List ℕ) (p q : ℕ) : Type 0 where
  pub closest : IsClosest distances (next p) q
  pub closer : slice_index distances p ≡ 1 + slice_index distances q

abbrev pub AreSteps : (ℕ → List ℕ) → List ℕ → ℕ → List ℕ → ℕ → Type 0
AreSteps next distances p [] q = IsStep next distances p q
AreSteps next distances p (r ∷ rs) q = IsStep next distances p r × AreSteps next distances r rs q

abbrev pub IsFound : (ℕ → List ℕ) → List ℕ → ℕ → List ℕ → ℕ → Type 0
IsFound next distances s [] at = IsClosest distances (next s) at
IsFound next distances s (q ∷ qs) at = IsClosest distances (next s) q × AreSteps next distances q qs at

-- the walk so far, and the point that it goes on to
pub record IsFollowed (next : ℕ → List ℕ) (distances : List ℕ) (s : ℕ) (walk : List ℕ) (at : ℕ) : Type 0 where
  pub tail : List ℕ
  pub parts : walk ≡ s ∷ tail
  pub found : IsFound next distances s tail at
  pub known : slice_index distances at ≢ far
  pub within : at < length distances

-- the points at the places k and above are assigned, each to the place of a point of its own component
pub record AreAssigned (next : ℕ → List ℕ) (n : ℕ) (order : List ℕ) (k : ℕ) (components : List ℕ) : Type 0 where
  pub size : length components ≡ n
  pub all : (j : ℕ) → k ≤ j → j < length order → slice_index components (slice_index order j) ≢ far
  pub least : (x : ℕ) → x < n → slice_index components x ≢ far → k ≤ slice_index components x
  pub root : (x : ℕ) → x < n → slice_index components x ≢ far → let r = slice_index order (slice_index components x) in (x ≡ r) ⊎ (Leads next x r × Leads next r x)
  pub falls : (x y : ℕ) → x < n → slice_index components x ≢ far → IsEdge next y x → (slice_index components y ≢ far) × (slice_index components x ≤ slice_index components y)

-- the same while the component of the point at k is found: `layer` has those whose edges back are still to be followed
pub record IsFlooding (next : ℕ → List ℕ) (n : ℕ) (order : List ℕ) (k : ℕ) (before layer components : List ℕ) : Type 0 where
  pub size : length components ≡ n
  pub all : (j : ℕ) → k ≤ j → j < length order → slice_index components (slice_index order j) ≢ far
  pub least : (x : ℕ) → x < n → slice_index components x ≢ far → k ≤ slice_index components x
  pub root : (x : ℕ) → x < n → slice_index components x ≢ far → let r = slice_index order (slice_index components x) in (x ≡ r) ⊎ (Leads next x r × Leads next r x)
  pub falls : (x y : ℕ) → x < n → slice_index components x ≢ far → IsEdge next y x → (has layer x ≡ true) ⊎ ((slice_index components y ≢ far) × (slice_index components x ≤ slice_index components y))
  pub at_layer : (x : ℕ) → has layer x ≡ true → slice_index components x ≡ k
  pub within : (x : ℕ) → has layer x ≡ true → x < n
  pub out : (x : ℕ) → has layer x ≡ true → has before x ≡ false
  pub early : (x : ℕ) → has layer x ≡ true → has (take k order ++ slice_index order k ∷ []) x ≡ true

-- two points are in one component where each leads to the other
pub record AreComponents (next : ℕ → List ℕ) (n : ℕ) (components : List ℕ) : Type 0 where
  pub falls : (y x : ℕ) → IsEdge next y x → slice_index components x ≤ slice_index components y
  pub joined : (x y : ℕ) → x < n → y < n → slice_index components x ≡ slice_index components y → (x ≡ y) ⊎ Leads next x y
