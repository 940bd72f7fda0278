-- What holds in the midst of a search depth first, and of the order in which it leaves the points.
use Rattle.std.specs.Prelude.{◌≡◌, ℕ, ◌<◌, ◌≤◌, ◌+◌, ◌^◌, ◌∷◌, ◌++◌, [], List, Bool, true, false, length, take, slice_index, slice_index_or, ◌⊎◌}
use Rattle.std.specs.List.{sum_by}
use Rattle.kasa_digraph.specs.declared.search.Task.{Task}
use Rattle.kasa_digraph.specs.declared.search.Task.TheVariants.{Visit, Leave}
use Rattle.kasa_digraph.specs.Graph.{has, IsEdge, Leads}

abbrev pub is_seen : List Bool → ℕ → Bool
is_seen seen x = slice_index_or seen x false

abbrev pub point : Task → ℕ
point (Visit p) = p
point (Leave p) = p

-- the points that are to be left, and those that are to be visited
abbrev pub leaves : List Task → List ℕ
leaves [] = []
leaves (Visit q ∷ tasks) = leaves tasks
leaves (Leave p ∷ tasks) = p ∷ leaves tasks

abbrev pub visits : List Task → List ℕ
visits [] = []
visits (Visit q ∷ tasks) = q ∷ visits tasks
visits (Leave p ∷ tasks) = visits tasks

abbrev pub with_visits : List ℕ → List Task → List Task
with_visits [] tasks = tasks
with_visits (q ∷ qs) tasks = with_visits qs (Visit q ∷ tasks)

-- p was left after the points `done`: those of `own` are all reached from it, and no edge leads from `before`
-- to one of `own` or to p
pub record IsFinished (next : ℕ → List ℕ) (done : List ℕ) (p : ℕ) : Type 0 where
  pub before : List ℕ
  pub own : List ℕ
  pub parts : done ≡ before ++ own
  pub leads : (x : ℕ) → has own x ≡ true → Leads next p x
  pub settled : (x y : ℕ) → has before x ≡ true → IsEdge next x y → (has before y ≡ true) ⊎ (has (done ++ p ∷ []) y ≡ false)
  pub fresh : has done p ≡ false

abbrev pub AreFinished : (ℕ → List ℕ) → List ℕ → Type 0
AreFinished next order = (k : ℕ) → k < length order → IsFinished next (take k order) (slice_index order k)

pub record IsFinishOrder (next : ℕ → List ℕ) (n : ℕ) (order : List ℕ) : Type 0 where
  pub all : (p : ℕ) → p < n → has order p ≡ true
  pub within : (p : ℕ) → has order p ≡ true → p < n
  pub finished : AreFinished next order
  pub few : length order ≤ n

-- p is to be left, above the points `under`: `before` is what was done when it was first seen
pub record IsOpen (next : ℕ → List ℕ) (done under : List ℕ) (p : ℕ) : Type 0 where
  pub before : List ℕ
  pub own : List ℕ
  pub parts : done ≡ before ++ own
  pub leads : (x : ℕ) → has own x ≡ true → Leads next p x
  pub settled : (x y : ℕ) → has before x ≡ true → IsEdge next x y → (has before y ≡ true) ⊎ (has under y ≡ true)
  pub once : has under p ≡ false

abbrev pub AreOpen : (ℕ → List ℕ) → List Task → List ℕ → Type 0
AreOpen next [] done = Unit {0}
AreOpen next (Visit q ∷ tasks) done = AreOpen next tasks done
AreOpen next (Leave p ∷ tasks) done = IsOpen next done (leaves tasks) p × AreOpen next tasks done

-- each point that is to be left leads to each task above
abbrev pub AreReached : (ℕ → List ℕ) → List Task → Type 0
AreReached next [] = Unit {0}
AreReached next (t ∷ tasks) = ((p : ℕ) → has (leaves tasks) p ≡ true → Leads next p (point t)) × AreReached next tasks

-- each successor of a point that is to be left was seen, or its visit stands above
abbrev pub ArePlanned : (ℕ → List ℕ) → List Bool → List ℕ → List Task → Type 0
ArePlanned next seen above [] = Unit {0}
ArePlanned next seen above (Visit q ∷ tasks) = ArePlanned next seen (q ∷ above) tasks
ArePlanned next seen above (Leave p ∷ tasks) = ((y : ℕ) → IsEdge next p y → (is_seen seen y ≡ true) ⊎ (has above y ≡ true)) × ArePlanned next seen above tasks

abbrev pub not_seen : Bool → ℕ
not_seen true = 0
not_seen false = 1

pub record IsSearch (next : ℕ → List ℕ) (n : ℕ) (seen : List Bool) (tasks : List Task) (done : List ℕ) : Type 0 where
  pub size : length seen ≡ n
  pub reached : AreReached next tasks
  pub planned : ArePlanned next seen [] tasks
  pub opened : AreOpen next tasks done
  pub finished : AreFinished next done
  pub seen_are : (x : ℕ) → is_seen seen x ≡ true → (has done x ≡ true) ⊎ (has (leaves tasks) x ≡ true)
  pub done_seen : (x : ℕ) → has done x ≡ true → is_seen seen x ≡ true
  pub leaves_seen : (x : ℕ) → has (leaves tasks) x ≡ true → is_seen seen x ≡ true
  pub apart : (x : ℕ) → has (leaves tasks) x ≡ true → has done x ≡ false
  pub closed : (x y : ℕ) → has done x ≡ true → IsEdge next x y → is_seen seen y ≡ true
  pub visits_in : (x : ℕ) → has (visits tasks) x ≡ true → x < n
  pub all : (x : ℕ) → x < n → (is_seen seen x ≡ true) ⊎ (has (visits tasks) x ≡ true)
  pub count : length done + length (leaves tasks) + sum_by not_seen seen ≡ n

-- the work that is left: it falls with each task
abbrev pub unseen : Bool → ℕ
unseen true = 0
unseen false = 2 ^ 64 + 1

abbrev pub work : List Bool → List Task → ℕ
work seen tasks = sum_by unseen seen + length tasks
