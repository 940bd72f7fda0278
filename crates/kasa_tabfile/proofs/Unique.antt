-- A text has one outcome at most.
use Rattle.std.proofs.Common.{◌≡◌, ◌∙◌, ◌<◌, ◌+◌, inl, inr, ℕ, List, [], ◌∷◌, sym, Some, None, Option, Result, length}
use Rattle.kasa_lists.specs.Lists.{Has}
use Rattle.kasa_graph.specs.Signature.{TypeEntry}
use Rattle.kasa_families.specs.declared.family.Family.{Family}
use Rattle.kasa_families.specs.declared.row.Row.{Row}
use Rattle.kasa_families.specs.Family.{IsFamily}
use Rattle.kasa_families.specs.Row.{IsRow}
use Rattle.kasa_families.specs.Table.{Table, families_of}
use Rattle.std.specs.Prelude.{slice_get}
use Rattle.kasa_tables.specs.Insert.{row_count}
use Rattle.kasa_tabfile.specs.declared.line.Line.{Line}
use Rattle.kasa_tabfile.specs.declared.line.Line.TheVariants as line
use Rattle.kasa_tabfile.specs.declared.line.Version.TheVariants.{One, Two}
use Rattle.kasa_tabfile.specs.declared.fault.TabFault.{TabFault}
use Rattle.kasa_tabfile.specs.declared.fault.TabFault.TheVariants.{BadFamily, FamilyTwice, TooManyFamilies, BadRow, RowTwice, TooManyRows}
use Rattle.kasa_tabfile.specs.declared.stage.Stage.{Stage}
use Rattle.kasa_tabfile.specs.declared.stage.Stage.TheVariants.{Start, Body, Ended, Failed}
use Rattle.kasa_tabfile.specs.Text.{lines, words}
use Rattle.kasa_tabfile.specs.Line.{line_of}
use Rattle.kasa_tabfile.specs.Outcome.{Unless, Fine, FamilyFault, last, RowAfter, FaultIs, next_stage, next_tables, IsOutcome, TablesOf}

fine-one : (e f : Option TabFault) → Fine e → Fine f → e ≡ f
fine-one e f a b = a ∙ sym b

unless-one : (P : Type 0) (fault : TabFault) (rest : Option TabFault → Type 0) → ((e f : Option TabFault) → rest e → rest f → e ≡ f) →
    (e f : Option TabFault) → Unless P fault rest e → Unless P fault rest f → e ≡ f
unless-one P fault rest one e f (inl a) (inl b) = a.1 ∙ sym b.1
unless-one P fault rest one e f (inl a) (inr b) = absurd (a.0 b.0)
unless-one P fault rest one e f (inr a) (inl b) = absurd (b.0 a.0)
unless-one P fault rest one e f (inr a) (inr b) = one e f a.1 b.1

family-one : (sig : List TypeEntry) (n : ℕ) (ts : List Table) (g : Option Family) (e f : Option TabFault) → FamilyFault sig n ts g e → FamilyFault sig n ts g f → e ≡ f
family-one sig n ts None e f a b = a ∙ sym b
family-one sig n ts (Some g) e f a b =
    unless-one (IsFamily sig g) (BadFamily n) _ (unless-one (¬ Has (families_of ts) g) (FamilyTwice n) _ (unless-one (length ts < 8000) (TooManyFamilies n) Fine fine-one)) e f a b

row-one : (sig : List TypeEntry) (n rows : ℕ) (t : Option Table) (row : Row) (e f : Option TabFault) → RowAfter sig n rows t row e → RowAfter sig n rows t row f → e ≡ f
row-one sig n rows None row e f a b = a ∙ sym b
row-one sig n rows (Some t) row e f a b =
    unless-one (IsRow sig t.family row) (BadRow n) _ (unless-one (¬ Has t.rows row) (RowTwice n) _ (unless-one (rows < 200000) (TooManyRows n) Fine fine-one)) e f a b

fault-one : (sig : List TypeEntry) (n : ℕ) (s : Stage) (ts : List Table) (l : Option Line) (e f : Option TabFault) → FaultIs sig n s ts l e → FaultIs sig n s ts l f → e ≡ f
fault-one sig n Start ts None e f a b = a ∙ sym b
fault-one sig n Start ts (Some l) e f a b = a ∙ sym b
fault-one sig n (Body v) ts None e f a b = a ∙ sym b
fault-one sig n (Body v) ts (Some (line.Header w)) e f a b = a ∙ sym b
fault-one sig n (Body v) ts (Some (line.Family g)) e f a b = family-one sig n ts g e f a b
fault-one sig n (Body One) ts (Some (line.Chain g)) e f a b = a ∙ sym b
fault-one sig n (Body Two) ts (Some (line.Chain g)) e f a b = family-one sig n ts g e f a b
fault-one sig n (Body v) ts (Some (line.Row None)) e f a b = a ∙ sym b
fault-one sig n (Body v) ts (Some (line.Row (Some row))) e f a b = row-one sig n (row_count ts) (slice_get ts (last ts)) row e f a b
fault-one sig n (Body v) ts (Some line.End) e f a b = a ∙ sym b
fault-one sig n Ended ts l e f a b = a ∙ sym b
fault-one sig n (Failed g) ts l e f a b = a ∙ sym b

outcome-one : (sig : List TypeEntry) (n : ℕ) (s : Stage) (ts : List Table) (ls : List (List ℕ)) (o p : Result (List Table) TabFault) → IsOutcome sig n s ts ls o → IsOutcome sig n s ts ls p → o ≡ p
outcome-one sig n s ts [] o p a b = absurd a
outcome-one sig n s ts (l ∷ []) o p a b = a ∙ sym b
outcome-one sig n s ts (l ∷ m ∷ ls) o p a b =
    let said = line_of (words l) in
    let same = fault-one sig n s ts said a.0 b.0 a.1 b.1 in
    outcome-one sig (n + 1) (next_stage b.0 s said) (next_tables b.0 ts said) (m ∷ ls) o p (rw same at a.2) b.2

pub one : (sig : List TypeEntry) (text : List ℕ) (o p : Result (List Table) TabFault) → TablesOf sig text o → TablesOf sig text p → o ≡ p
one sig text o p a b = outcome-one sig 1 Start [] (lines text) o p a b
