-- What is asked of a search for rows: those that a rule yields from tables, of the family of a number; and what is kept of them.
use Rattle.std.specs.Prelude.{◌≡◌, ℕ, ◌<◌, ◌≤◌, ◌⊎◌, List, [], Some, suc, length, slice_get}
use Rattle.kasa_graph.specs.Signature.{TypeEntry}
use Rattle.kasa_graph.specs.Lists.{Has, AllDifferent}
use Rattle.kasa_families.specs.declared.family.Family.{Family}
use Rattle.kasa_families.specs.declared.row.Local.{Local}
use Rattle.kasa_families.specs.declared.row.Row.{Row}
use Rattle.kasa_families.specs.declared.row.Row.TheVariants.{Locals}
use Rattle.kasa_families.specs.declared.shape.NodeSite.{NodeSite}
use Rattle.kasa_families.specs.Row.{IsRowBelow}
use Rattle.kasa_families.specs.Family.{shape_of}
use Rattle.kasa_families.specs.Table.{Table, AreTables, families_of, rows_of}
use Rattle.kasa_rules.specs.Rule.{RuleParts, IsRuleOver}
use Rattle.kasa_columns.specs.declared.collect.Aim.{Aim}
use Rattle.kasa_columns.specs.declared.collect.Aim.TheVariants.{UpTo, NewUpTo, FirstMissing}
use Rattle.kasa_columns.specs.Forward.{HasColumns}
use Rattle.kasa_columns.specs.Results.{IsResult}

pub record Ask : Type 0 where
  pub sig : List TypeEntry
  pub tables : List Table
  pub rule : RuleParts
  pub number : ℕ
  pub family : Family
  pub columns : List NodeSite
  pub aim : Aim

-- the family of the number has columns, which are these
pub record IsAsk (a : Ask) : Type 0 where
  pub valid : AreTables a.sig a.tables
  pub over : IsRuleOver a.sig a.rule
  pub few : length a.rule.left ≤ 12
  pub numbered : slice_get (families_of a.tables) a.number ≡ Some a.family
  pub columned : HasColumns a.family
  pub listed : a.columns ≡ (shape_of a.family).columns

-- the rows that the tables have of it
abbrev pub stored : Ask → List Row
stored a = rows_of a.tables a.number

abbrev pub IsResultOf : Ask → Row → Type 0
IsResultOf a row = IsResult a.sig a.tables a.rule a.number row

-- ---- what is kept

-- nothing more is to be done about the row, where the tables have some rows and some are found
abbrev pub IsSettledFor : List Row → Aim → List Row → Row → Type 0
IsSettledFor stored (UpTo most) found row = (most < length found) ⊎ Has found row
IsSettledFor stored (NewUpTo most) found row = Has stored row ⊎ (most < length found) ⊎ Has found row
IsSettledFor stored FirstMissing found row = Has stored row ⊎ ((least : Row) × (slice_get found 0 ≡ Some least) × ((least ≡ row) ⊎ IsRowBelow least row))

-- the row is kept if it is yielded
abbrev pub IsWantedFor : List Row → Aim → List Row → Row → Type 0
IsWantedFor stored (UpTo most) found row = (length found ≤ most) × ¬ Has found row
IsWantedFor stored (NewUpTo most) found row = (¬ Has stored row) × (length found ≤ most) × ¬ Has found row
IsWantedFor stored FirstMissing found row = (¬ Has stored row) × ((least : Row) → slice_get found 0 ≡ Some least → IsRowBelow row least)

-- which rows stay where one more is kept
abbrev pub kept_by : Aim → List Row → List Row
kept_by (UpTo most) found = found
kept_by (NewUpTo most) found = found
kept_by FirstMissing found = []

-- so many rows, or such ones, may be found
abbrev pub FitsAim : List Row → Aim → List Row → Type 0
FitsAim stored (UpTo most) found = AllDifferent found × (length found ≤ suc most)
FitsAim stored (NewUpTo most) found = AllDifferent found × (length found ≤ suc most) × ((row : Row) → Has found row → ¬ Has stored row)
FitsAim stored FirstMissing found = (row : Row) → Has found row → ¬ Has stored row

abbrev pub IsSettled : Ask → List Row → Row → Type 0
IsSettled a found row = IsSettledFor (stored a) a.aim found row

abbrev pub IsWanted : Ask → List Row → Row → Type 0
IsWanted a found row = IsWantedFor (stored a) a.aim found row

-- all found rows are yielded
pub record AreFoundFor (sig : List TypeEntry) (tables : List Table) (r : RuleParts) (f : ℕ) (aim : Aim) (found : List Row) : Type 0 where
  pub results : (row : Row) → Has found row → IsResult sig tables r f row
  pub fit : FitsAim (rows_of tables f) aim found

abbrev pub AreFound : Ask → List Row → Type 0
AreFound a found = AreFoundFor a.sig a.tables a.rule a.number a.aim found

-- the search went on from some found rows to others
pub record GoesOn (a : Ask) (old new : List Row) : Type 0 where
  pub found : AreFound a old → AreFound a new
  pub settled : (row : Row) → IsSettled a old row → IsSettled a new row

-- the tables have the row
abbrev pub IsStoredRow : Ask → List Local → Type 0
IsStoredRow a shown = Has (stored a) (Locals shown)
