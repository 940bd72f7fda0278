-- What pairs yield from tables, and which tables are the least closed ones.
use Rattle.std.specs.Prelude.{◌≡◌, ℕ, ◌<◌, ◌≤◌, ◌↔◌, Bool, true, List, length}
use Rattle.kasa_lists.specs.Lists.{Has, AllDifferent}
use Rattle.kasa_worklist.specs.Sums.{sum_below}

-- all that is known of a system over tables T with rows X: how many pairs and families it has, the family whose rows a
-- pair yields, whether a pair reads a family, how many rows there may be, which tables are valid, their rows of a family,
-- and which rows a pair yields from them
pub record Relations (T X : Type 0) : Type 1 where
  pub pairs : ℕ
  pub families : ℕ
  pub family : ℕ → ℕ
  pub reads : ℕ → ℕ → Bool
  pub most : ℕ
  pub valid : T → Type 0
  pub rows : T → ℕ → List X
  pub yields : T → ℕ → X → Type 0

-- what the first tables have of a family, the second ones have of it
abbrev pub RowsAreAmong : {T X : Type 0} → Relations T X → T → T → Type 0
RowsAreAmong {X = X} s first second = (k : ℕ) (row : X) → Has (s.rows first k) row → Has (s.rows second k) row

-- the tables have what the pair yields from them
abbrev pub HavePairResults : {T X : Type 0} → Relations T X → T → ℕ → Type 0
HavePairResults {X = X} s tables p = (row : X) → s.yields tables p row → Has (s.rows tables (s.family p)) row

abbrev pub HaveAllResults : {T X : Type 0} → Relations T X → T → Type 0
HaveAllResults s tables = (p : ℕ) → p < s.pairs → HavePairResults s tables p

pub record AreLawful {T X : Type 0} (s : Relations T X) : Type 0 where
  pub family : (p : ℕ) → p < s.pairs → s.family p < s.families
  -- what is yielded from tables is yielded from larger ones
  pub monotone : (first second : T) (p : ℕ) (row : X) → p < s.pairs → s.valid first → s.valid second →
      RowsAreAmong s first second → s.yields first p row → s.yields second p row
  -- where no family that the pair reads has new rows, the pair yields nothing new
  pub local : (first second : T) (p : ℕ) (row : X) → p < s.pairs → s.valid first → s.valid second →
      ((g : ℕ) → s.reads p g ≡ true → (other : X) → Has (s.rows second g) other → Has (s.rows first g) other) →
      s.yields second p row → s.yields first p row

-- numbers of the pairs that read a family, each once
pub record AreReaders {T X : Type 0} (s : Relations T X) (g : ℕ) (numbers : List ℕ) : Type 0 where
  pub different : AllDifferent numbers
  pub exact : (p : ℕ) → Has numbers p ↔ ((p < s.pairs) × (s.reads p g ≡ true))

-- how many rows there are in all
abbrev pub rows_in_all : {T X : Type 0} → Relations T X → T → ℕ
rows_in_all s tables = sum_below s.families (λ k. length (s.rows tables k))

-- valid tables with no more rows than there may be
pub record AreWithinLimit {T X : Type 0} (s : Relations T X) (tables : T) : Type 0 where
  pub valid : s.valid tables
  pub few : rows_in_all s tables ≤ s.most

-- valid closed tables with the rows of the start, which lie within all such tables
pub record AreLeastAbove {T X : Type 0} (s : Relations T X) (start tables : T) : Type 0 where
  pub room : AreWithinLimit s tables
  pub begins : RowsAreAmong s start tables
  pub closed : HaveAllResults s tables
  pub least : (others : T) → s.valid others → HaveAllResults s others →
      RowsAreAmong s start others → RowsAreAmong s tables others

-- all valid closed tables with the rows of the start have more rows than there may be
abbrev pub IsLimitPassed : {T X : Type 0} → Relations T X → T → Type 0
IsLimitPassed {T} s start =
    (others : T) → s.valid others → HaveAllResults s others → RowsAreAmong s start others → s.most < rows_in_all s others
