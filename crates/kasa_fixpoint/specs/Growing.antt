-- Tables that take in rows, one after another, as long as there is room.
use Rattle.std.specs.Prelude.{◌≡◌, ℕ, ◌<◌, ◌≤◌, ◌≢◌, ◌⊎◌, Bool, true, false, List, length}
use Rattle.kasa_lists.specs.Lists.{Has, AllDifferent}
use Rattle.kasa_families.specs.declared.row.Row.{Row}
use Rattle.kasa_families.specs.Table.{Table, families_of, rows_of}
use Rattle.kasa_tables.specs.Insert.{row_count}

-- no family has a row twice
abbrev pub HaveDifferentRows : List Table → Type 0
HaveDifferentRows tables = (k : ℕ) → AllDifferent (rows_of tables k)

-- what the first tables have of the family of a number, the second ones have of it
abbrev pub HaveRowsOf : List Table → List Table → Type 0
HaveRowsOf first second = (k : ℕ) (row : Row) → Has (rows_of first k) row → Has (rows_of second k) row

-- different rows, at most 200,000
pub record HasRoomForRows (tables : List Table) : Type 0 where
  pub different : HaveDifferentRows tables
  pub few : row_count tables ≤ 200000

-- where something is new, the family of a number has more rows; the others have the same, and else this one too
pub record HaveMoreRows (f : ℕ) (old new : List Table) (grew : Bool) : Type 0 where
  pub more : grew ≡ true → length (rows_of old f) < length (rows_of new f)
  pub others : (k : ℕ) → k ≢ f → rows_of new k ≡ rows_of old k
  pub same : grew ≡ false → (k : ℕ) → rows_of new k ≡ rows_of old k

-- the tables of the same families that have, of the family of a number, these rows too
pub record TakesIn (f : ℕ) (rows : List Row) (old new : List Table) : Type 0 where
  pub has_room : HasRoomForRows new
  pub families : families_of new ≡ families_of old
  pub kept : HaveRowsOf old new
  pub held : (row : Row) → Has rows row → Has (rows_of new f) row
  pub only : (k : ℕ) (row : Row) → Has (rows_of new k) row → Has (rows_of old k) row ⊎ ((k ≡ f) × Has rows row)

-- tables that have the rows of these, and of the family of a number some rows too, have more rows than there may be
abbrev pub LacksRoom : ℕ → List Row → List Table → Type 0
LacksRoom f rows tables =
    (others : List Table) → HaveRowsOf tables others → ((row : Row) → Has rows row → Has (rows_of others f) row) → 200000 < row_count others
