-- What a text gives: tables, or its first fault.
use Rattle.std.specs.Prelude.{◌≡◌, ◌<◌, ◌⊎◌, ℕ, ◌+◌, ◌-◌, List, [], ◌∷◌, ◌++◌, Option, Some, None, Result, Ok, Err, Bool, true, false, length, slice_get}
use Rattle.kasa_lists.specs.Lists.{Has}
use Rattle.kasa_graph.specs.Signature.{TypeEntry}
use Rattle.kasa_families.specs.declared.family.Family.{Family}
use Rattle.kasa_families.specs.declared.row.Row.{Row}
use Rattle.kasa_families.specs.Family.{IsFamily}
use Rattle.kasa_families.specs.Row.{IsRow}
use Rattle.kasa_families.specs.Table.{Table, families_of}
use Rattle.kasa_tables.specs.Insert.{empty_table, with_row, row_count}
use Rattle.kasa_tabfile.specs.declared.line.Line.{Line}
use Rattle.kasa_tabfile.specs.declared.line.Line.TheVariants as line
use Rattle.kasa_tabfile.specs.declared.line.Version.{Version}
use Rattle.kasa_tabfile.specs.declared.line.Version.TheVariants.{One, Two}
use Rattle.kasa_tabfile.specs.declared.fault.TabFault.{TabFault}
use Rattle.kasa_tabfile.specs.declared.fault.TabFault.TheVariants.{BadLine, BadFamily, FamilyTwice, TooManyFamilies, BadRow, RowTwice, TooManyRows, NoEnd}
use Rattle.kasa_tabfile.specs.declared.stage.Stage.{Stage}
use Rattle.kasa_tabfile.specs.declared.stage.Stage.TheVariants.{Start, Body, Ended, Failed}
use Rattle.kasa_tabfile.specs.Text.{lines, words}
use Rattle.kasa_tabfile.specs.Line.{line_of}

-- ---- the fault of one line, the n-th

-- `e` is this fault unless P holds, and then it is as `rest` says
abbrev pub Unless : Type 0 → TabFault → (Option TabFault → Type 0) → Option TabFault → Type 0
Unless P fault rest e = ((¬ P) × (e ≡ Some fault)) ⊎ (P × rest e)

abbrev pub Fine : Option TabFault → Type 0
Fine e = e ≡ None

abbrev pub FamilyFault : List TypeEntry → ℕ → List Table → Option Family → Option TabFault → Type 0
FamilyFault sig n ts None e = e ≡ Some (BadFamily n)
FamilyFault sig n ts (Some f) e =
    Unless (IsFamily sig f) (BadFamily n) (Unless (¬ Has (families_of ts) f) (FamilyTwice n) (Unless (length ts < 8000) (TooManyFamilies n) Fine)) e

-- the number of the last table, where there is one
abbrev pub last : List Table → ℕ
last ts = length ts - 1

-- a row after this table, where there are so many rows
abbrev pub RowAfter : List TypeEntry → ℕ → ℕ → Option Table → Row → Option TabFault → Type 0
RowAfter sig n rows None row e = e ≡ Some (BadRow n)
RowAfter sig n rows (Some t) row e =
    Unless (IsRow sig t.family row) (BadRow n) (Unless (¬ Has t.rows row) (RowTwice n) (Unless (rows < 200000) (TooManyRows n) Fine)) e

abbrev pub RowFault : List TypeEntry → ℕ → List Table → Option Row → Option TabFault → Type 0
RowFault sig n ts None e = e ≡ Some (BadRow n)
RowFault sig n ts (Some row) e = RowAfter sig n (row_count ts) (slice_get ts (last ts)) row e

abbrev pub start_fault : ℕ → Line → Option TabFault
start_fault n (line.Header v) = None
start_fault n _ = Some (BadLine n)

-- a chain stands only after the header 2
abbrev pub ChainFault : List TypeEntry → ℕ → Version → List Table → Option Family → Option TabFault → Type 0
ChainFault sig n One ts f e = e ≡ Some (BadLine n)
ChainFault sig n Two ts f e = FamilyFault sig n ts f e

abbrev pub BodyFault : List TypeEntry → ℕ → Version → List Table → Line → Option TabFault → Type 0
BodyFault sig n v ts (line.Header w) e = e ≡ Some (BadLine n)
BodyFault sig n v ts (line.Family f) e = FamilyFault sig n ts f e
BodyFault sig n v ts (line.Chain f) e = ChainFault sig n v ts f e
BodyFault sig n v ts (line.Row row) e = RowFault sig n ts row e
BodyFault sig n v ts line.End e = e ≡ None

-- the first fault so far, once this line has come
abbrev pub FaultIs : List TypeEntry → ℕ → Stage → List Table → Option Line → Option TabFault → Type 0
FaultIs sig n Start ts None e = e ≡ Some (BadLine n)
FaultIs sig n Start ts (Some l) e = e ≡ start_fault n l
FaultIs sig n (Body v) ts None e = e ≡ Some (BadLine n)
FaultIs sig n (Body v) ts (Some l) e = BodyFault sig n v ts l e
FaultIs sig n Ended ts l e = e ≡ Some (BadLine n)
FaultIs sig n (Failed f) ts l e = e ≡ Some f

-- ---- what a line without fault adds

abbrev pub stage_after : Stage → Option Line → Stage
stage_after s (Some (line.Header v)) = Body v
stage_after s (Some line.End) = Ended
stage_after s _ = s

abbrev pub with_family : List Table → Option Family → List Table
with_family ts None = ts
with_family ts (Some f) = ts ++ empty_table f ∷ []

-- a row belongs to the last family before it
abbrev pub with_last_row : List Table → Option Row → List Table
with_last_row ts None = ts
with_last_row ts (Some row) = with_row ts (last ts) row

abbrev pub tables_after : List Table → Option Line → List Table
tables_after ts (Some (line.Family f)) = with_family ts f
tables_after ts (Some (line.Chain f)) = with_family ts f
tables_after ts (Some (line.Row row)) = with_last_row ts row
tables_after ts _ = ts

abbrev pub next_stage : Option TabFault → Stage → Option Line → Stage
next_stage None s l = stage_after s l
next_stage (Some e) s l = Failed e

-- the new value, or the old one where there is a fault
abbrev pub unless_fault : {A : Type 0} → Option TabFault → A → A → A
unless_fault None old new = new
unless_fault (Some e) old new = old

abbrev pub next_tables : Option TabFault → List Table → Option Line → List Table
next_tables e ts l = unless_fault e ts (tables_after ts l)

-- ---- the outcome

-- what lies behind the last LF has come
abbrev pub at_end : ℕ → Stage → List Table → (is_empty : Bool) → Result (List Table) TabFault
at_end n Start ts e = Err NoEnd
at_end n (Body v) ts e = Err NoEnd
at_end n Ended ts true = Ok ts
at_end n Ended ts false = Err (BadLine n)
at_end n (Failed fault) ts e = Err fault

abbrev pub is_empty : List ℕ → Bool
is_empty [] = true
is_empty (b ∷ bs) = false

-- the outcome of lines, the n-th of a text first, and of what stands behind them
abbrev pub IsOutcome : List TypeEntry → ℕ → Stage → List Table → List (List ℕ) → Result (List Table) TabFault → Type 0
IsOutcome sig n s ts [] o = ⊥
IsOutcome sig n s ts (l ∷ []) o = o ≡ at_end n s ts (is_empty l)
IsOutcome sig n s ts (l ∷ m ∷ ls) o =
    let line = line_of (words l) in
    (e : Option TabFault) × FaultIs sig n s ts line e × IsOutcome sig (n + 1) (next_stage e s line) (next_tables e ts line) (m ∷ ls) o

-- the tables that a text stands for, or its first fault
abbrev pub TablesOf : List TypeEntry → List ℕ → Result (List Table) TabFault → Type 0
TablesOf sig text o = IsOutcome sig 1 Start [] (lines text) o
