-- One turn of the loop, and turns one after another.
use Rattle.std.specs.Prelude.{◌≡◌, ℕ, ◌+◌, ◌-◌, ◌*◌, ◌<◌, ◌≤◌, ◌≢◌, ◌⊎◌, Bool, true, false, List, length}
use Rattle.kasa_lists.specs.Lists.{Has}
use Rattle.kasa_worklist.specs.System.{Relations, RowsAreAmong, HavePairResults, HaveAllResults, AreWithinLimit, rows_in_all}
use Rattle.kasa_worklist.specs.Counts.{reader_count, weigh}

-- where something is new, a family has more rows; the other families have the same rows, and else this one too
pub record HaveGrown {T X : Type 0} (s : Relations T X) (f : ℕ) (old new : T) (grew : Bool) : Type 0 where
  pub more : grew ≡ true → length (s.rows old f) < length (s.rows new f)
  pub others : (k : ℕ) → k ≢ f → s.rows new k ≡ s.rows old k
  pub same : grew ≡ false → (k : ℕ) → s.rows new k ≡ s.rows old k

-- from tables to larger ones, with no row that closed tables above the first ones lack
pub record Grows {T X : Type 0} (s : Relations T X) (old new : T) : Type 0 where
  pub has_room : AreWithinLimit s new
  pub kept : RowsAreAmong s old new
  pub forced : (others : T) → s.valid others → HaveAllResults s others → RowsAreAmong s old others → RowsAreAmong s new others

-- the tables take in what a pair yields from them
pub record Applies {T X : Type 0} (s : Relations T X) (p : ℕ) (old new : T) (grew : Bool) : Type 0 where
  pub grows : Grows s old new
  pub grown : HaveGrown s (s.family p) old new grew
  pub own : (row : X) → s.yields old p row → Has (s.rows new (s.family p)) row

-- each pair is on the list, or what it yields is in the tables
abbrev pub AreSettled : {T X : Type 0} → Relations T X → List ℕ → T → Type 0
AreSettled s numbers tables = (p : ℕ) → p < s.pairs → Has numbers p ⊎ HavePairResults s tables p

-- what falls with each turn: the room for rows, or else the list
abbrev pub work_left : {T X : Type 0} → Relations T X → List ℕ → T → ℕ
work_left s numbers tables = (s.most - rows_in_all s tables) * (s.pairs + 1) + length numbers

-- a number is taken from the list `was`, its pair is applied, and then the list is `now`
pub record IsTurn {T X : Type 0} (s : Relations T X) (was now : List ℕ) (old new : T) : Type 0 where
  pub grows : Grows s old new
  pub settled : AreSettled s was old → AreSettled s now new
  pub low : length was ≤ length now + 1
  pub high : length now + 1 + weigh s (reader_count s) old ≤ length was + weigh s (reader_count s) new
  pub less : work_left s now new < work_left s was old
