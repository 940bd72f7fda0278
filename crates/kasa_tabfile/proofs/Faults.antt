-- Want of memory is no fault of a text.
use Rattle.std.proofs.Common.{◌≡◌, ◌<◌, ◌+◌, inl, inr, ℕ, List, [], ◌∷◌, sym, subst, Some, None, Option, Result, Ok, Err, Bool, true, false, length}
use Rattle.std.specs.Prelude.{⊤, slice_get}
use Rattle.kasa_lists.specs.Lists.{Has}
use Rattle.kasa_graph.specs.Signature.{TypeEntry}
use Rattle.kasa_families.specs.declared.family.Family.{Family}
use Rattle.kasa_families.specs.declared.row.Row.{Row}
use Rattle.kasa_families.specs.Family.{IsFamily}
use Rattle.kasa_families.specs.Row.{IsRow}
use Rattle.kasa_families.specs.Table.{Table, families_of}
use Rattle.kasa_tables.specs.Insert.{row_count}
use Rattle.kasa_tabfile.specs.declared.line.Line.{Line}
use Rattle.kasa_tabfile.specs.declared.line.Line.TheVariants as line
use Rattle.kasa_tabfile.specs.declared.line.Version.TheVariants.{One, Two}
use Rattle.kasa_tabfile.specs.declared.fault.TabFault.{TabFault}
use Rattle.kasa_tabfile.specs.declared.fault.TabFault.TheVariants.{NoMemory, BadLine, BadFamily, FamilyTwice, TooManyFamilies, BadRow, RowTwice, TooManyRows}
use Rattle.kasa_tabfile.specs.declared.stage.Stage.{Stage}
use Rattle.kasa_tabfile.specs.declared.stage.Stage.TheVariants.{Start, Body, Ended, Failed}
use Rattle.kasa_tabfile.specs.Text.{lines, words}
use Rattle.kasa_tabfile.specs.Line.{line_of}
use Rattle.kasa_tabfile.specs.Outcome.{Unless, Fine, FamilyFault, last, RowAfter, start_fault, FaultIs, next_stage, next_tables, at_end, is_empty, IsOutcome, TablesOf}

-- not the want of memory
abbrev Real : Option TabFault → Type 0
Real (Some NoMemory) = ⊥
Real _ = ⊤

abbrev RealStage : Stage → Type 0
RealStage (Failed e) = Real (Some e)
RealStage _ = ⊤

abbrev RealOutcome : Result (List Table) TabFault → Type 0
RealOutcome (Ok ts) = ⊤
RealOutcome (Err e) = Real (Some e)

same-real : (e f : Option TabFault) → Real f → e ≡ f → Real e
same-real e f r same = subst (λ g. Real g) (sym same) r

fine-real : (e : Option TabFault) → Fine e → Real e
fine-real e h = same-real e None tt h

unless-real : (P : Type 0) (fault : TabFault) (rest : Option TabFault → Type 0) → Real (Some fault) → ((e : Option TabFault) → rest e → Real e) → (e : Option TabFault) → Unless P fault rest e → Real e
unless-real P fault rest r more e (inl h) = same-real e (Some fault) r h.1
unless-real P fault rest r more e (inr h) = more e h.1

family-real : (sig : List TypeEntry) (n : ℕ) (ts : List Table) (f : Option Family) (e : Option TabFault) → FamilyFault sig n ts f e → Real e
family-real sig n ts None e h = same-real e (Some (BadFamily n)) tt h
family-real sig n ts (Some f) e h =
    unless-real (IsFamily sig f) (BadFamily n) _ tt (unless-real (¬ Has (families_of ts) f) (FamilyTwice n) _ tt (unless-real (length ts < 8000) (TooManyFamilies n) Fine tt fine-real)) e h

row-real : (sig : List TypeEntry) (n rows : ℕ) (t : Option Table) (row : Row) (e : Option TabFault) → RowAfter sig n rows t row e → Real e
row-real sig n rows None row e h = same-real e (Some (BadRow n)) tt h
row-real sig n rows (Some t) row e h =
    unless-real (IsRow sig t.family row) (BadRow n) _ tt (unless-real (¬ Has t.rows row) (RowTwice n) _ tt (unless-real (rows < 200000) (TooManyRows n) Fine tt fine-real)) e h

start-real : (n : ℕ) (l : Line) → Real (start_fault n l)
start-real n (line.Header v) = tt
start-real n (line.Family f) = tt
start-real n (line.Chain f) = tt
start-real n (line.Row row) = tt
start-real n line.End = tt

fault-real : (sig : List TypeEntry) (n : ℕ) (s : Stage) (ts : List Table) (l : Option Line) (e : Option TabFault) → RealStage s → FaultIs sig n s ts l e → Real e
fault-real sig n Start ts None e r h = same-real e (Some (BadLine n)) tt h
fault-real sig n Start ts (Some l) e r h = same-real e (start_fault n l) (start-real n l) h
fault-real sig n (Body v) ts None e r h = same-real e (Some (BadLine n)) tt h
fault-real sig n (Body v) ts (Some (line.Header w)) e r h = same-real e (Some (BadLine n)) tt h
fault-real sig n (Body v) ts (Some (line.Family f)) e r h = family-real sig n ts f e h
fault-real sig n (Body One) ts (Some (line.Chain f)) e r h = same-real e (Some (BadLine n)) tt h
fault-real sig n (Body Two) ts (Some (line.Chain f)) e r h = family-real sig n ts f e h
fault-real sig n (Body v) ts (Some (line.Row None)) e r h = same-real e (Some (BadRow n)) tt h
fault-real sig n (Body v) ts (Some (line.Row (Some row))) e r h = row-real sig n (row_count ts) (slice_get ts (last ts)) row e h
fault-real sig n (Body v) ts (Some line.End) e r h = same-real e None tt h
fault-real sig n Ended ts l e r h = same-real e (Some (BadLine n)) tt h
fault-real sig n (Failed f) ts l e r h = same-real e (Some f) r h

next-real : (e : Option TabFault) (s : Stage) (l : Option Line) → Real e → RealStage s → RealStage (next_stage e s l)
next-real (Some e) s l f r = f
next-real None s None f r = r
next-real None s (Some (line.Header v)) f r = tt
next-real None s (Some (line.Family g)) f r = r
next-real None s (Some (line.Chain g)) f r = r
next-real None s (Some (line.Row row)) f r = r
next-real None s (Some line.End) f r = tt

end-real : (n : ℕ) (s : Stage) (ts : List Table) (e : Bool) → RealStage s → RealOutcome (at_end n s ts e)
end-real n Start ts e r = tt
end-real n (Body v) ts e r = tt
end-real n Ended ts true r = tt
end-real n Ended ts false r = tt
end-real n (Failed f) ts e r = r

outcome-real : (sig : List TypeEntry) (n : ℕ) (s : Stage) (ts : List Table) (ls : List (List ℕ)) (o : Result (List Table) TabFault) → RealStage s → IsOutcome sig n s ts ls o → RealOutcome o
outcome-real sig n s ts [] o r h = absurd h
outcome-real sig n s ts (l ∷ []) o r h = subst (λ p. RealOutcome p) (sym h) (end-real n s ts (is_empty l) r)
outcome-real sig n s ts (l ∷ m ∷ ls) o r h =
    let said = line_of (words l) in
    outcome-real sig (n + 1) (next_stage h.0 s said) (next_tables h.0 ts said) (m ∷ ls) o (next-real h.0 s said (fault-real sig n s ts said h.0 r h.1) r) h.2

pub no-memory : (sig : List TypeEntry) (text : List ℕ) → ¬ TablesOf sig text (Err NoMemory)
no-memory sig text h = outcome-real sig 1 Start [] (lines text) (Err NoMemory) tt h
