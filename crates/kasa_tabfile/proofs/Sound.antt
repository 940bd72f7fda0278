-- What is read are tables over the signature, within the limits.
use Rattle.std.proofs.Common.{◌≡◌, ◌<◌, ◌+◌, inl, inr, ℕ, List, [], ◌∷◌, ◌++◌, refl, sym, subst, arith, Bool, true, false, length, Some, None, Option, Ok}
use Rattle.std.specs.Prelude.{slice_get}
use Rattle.std.proofs.lemmas.List.{map-append}
use Rattle.kasa_lists.specs.Lists.{Has, AllDifferent}
use Rattle.kasa_lists.proofs.Having.{Has-push}
use Rattle.kasa_lists.proofs.Different.{AllDifferent-[], AllDifferent-push}
use Rattle.kasa_lists.proofs.Updates.{map-update_same, Has-update}
use Rattle.kasa_graph.specs.Signature.{TypeEntry}
use Rattle.kasa_families.specs.declared.family.Family.{Family}
use Rattle.kasa_families.specs.declared.row.Row.{Row}
use Rattle.kasa_families.specs.Family.{IsFamily}
use Rattle.kasa_families.specs.Row.{IsRow}
use Rattle.kasa_families.specs.Table.{Table, AreTables, AreShapedTables, families_of}
use Rattle.kasa_tables.specs.Insert.{empty_table, with_last, with_row, row_count}
use Rattle.kasa_tables.proofs.PlainLemmas.{AreTables-empty, AreShapedTables-empty, AreShapedTables-with_family, AreShapedTables-with_row}
use Rattle.kasa_tabfile.specs.declared.line.Line.{Line}
use Rattle.kasa_tabfile.specs.declared.line.Line.TheVariants as line
use Rattle.kasa_tabfile.specs.declared.line.Version.TheVariants.{One, Two}
use Rattle.kasa_tabfile.specs.declared.fault.TabFault.{TabFault}
use Rattle.kasa_tabfile.specs.declared.fault.TabFault.TheVariants.{BadFamily, FamilyTwice, TooManyFamilies, BadRow, RowTwice, TooManyRows}
use Rattle.kasa_tabfile.specs.declared.stage.Stage.{Stage}
use Rattle.kasa_tabfile.specs.declared.stage.Stage.TheVariants.{Start, Body, Ended, Failed}
use Rattle.kasa_tabfile.specs.Text.{lines, words}
use Rattle.kasa_tabfile.specs.Line.{line_of}
use Rattle.kasa_tabfile.specs.Outcome.{Unless, Fine, FamilyFault, last, RowAfter, FaultIs, next_stage, tables_after, next_tables, at_end, is_empty, IsOutcome, TablesOf}
use Rattle.kasa_tabfile.proofs.TakingLemmas.{HasShape-row}

-- tables over the signature, within the limits
record Good (sig : List TypeEntry) (ts : List Table) : Type 0 where
  valid : AreTables sig ts
  shaped : AreShapedTables ts

-- what holds where there is none of three faults
none-of-three : (P Q R : Type 0) (f g h : TabFault) → Unless P f (Unless Q g (Unless R h Fine)) None → P × Q × R
none-of-three P Q R f g h (inl a) = absurd (let e = a.1 in cc)
none-of-three P Q R f g h (inr (p, inl a)) = absurd (let e = a.1 in cc)
none-of-three P Q R f g h (inr (p, inr (q, inl a))) = absurd (let e = a.1 in cc)
none-of-three P Q R f g h (inr (p, inr (q, inr r))) = (p, q, r.0)

-- ---- a family more

no-rows : (f : Family) (t : Table) → t ≡ empty_table f → (row : Row) → ¬ Has t.rows row
no-rows f t is row has = let none : slice_get [] has.0 ≡ Some row = rw is at has.1 in cc

with-family : (sig : List TypeEntry) (ts : List Table) (f : Family) → Good sig ts → IsFamily sig f → ¬ Has (families_of ts) f → length ts < 8000 → Good sig (ts ++ empty_table f ∷ [])
with-family sig ts f good valid new room = record {
  valid = record {
    different = rw (map-append (λ (t : Table). t.family) ts (empty_table f ∷ [])) (AllDifferent-push (families_of ts) f good.valid.different new);
    families = λ t has. elim (Has-push ts (empty_table f) t has) [ inl old ↦ good.valid.families t old | inr is ↦ (rw is valid) ];
    rows_differ = λ t has. elim (Has-push ts (empty_table f) t has) [ inl old ↦ good.valid.rows_differ t old | inr is ↦ (rw is AllDifferent-[]) ];
    rows = λ t has row among. elim (Has-push ts (empty_table f) t has) [ inl old ↦ good.valid.rows t old row among | inr is ↦ absurd (no-rows f t is row among) ];
  };
  shaped = AreShapedTables-with_family ts f good.shaped new room;
}

-- ---- a row more

module _ (sig : List TypeEntry) (ts : List Table) (k : ℕ) (t : Table) (row : Row) (at : slice_get ts k ≡ Some t) (good : Good sig ts) (valid : IsRow sig t.family row) (new : ¬ Has t.rows row) where
  -- the table that got the row, and each of the others
  by-table : (P : Table → Type 0) → P (with_last row t) → ((u : Table) → Has ts u → P u) → (u : Table) → Has (with_row ts k row) u → P u
  by-table P here rest u has = elim (Has-update ts k (with_last row) t u at has) [ inl is ↦ subst P (sym is) here | inr old ↦ rest u old ]

  pushed : (other : Row) → Has (t.rows ++ row ∷ []) other → IsRow sig t.family other
  pushed other has = elim (Has-push t.rows row other has) [ inl old ↦ good.valid.rows t (k, at) other old | inr is ↦ (rw is valid) ]

  with-row : row_count ts < 200000 → Good sig (with_row ts k row)
  with-row room = record {
    valid = record {
      different = rw (map-update_same (λ (u : Table). u.family) (with_last row) ts k t at refl) good.valid.different;
      families = by-table (λ u. IsFamily sig u.family) (good.valid.families t (k, at)) good.valid.families;
      rows_differ = by-table (λ u. AllDifferent u.rows) (AllDifferent-push t.rows row (good.valid.rows_differ t (k, at)) new) good.valid.rows_differ;
      rows = by-table (λ u. (other : Row) → Has u.rows other → IsRow sig u.family other) pushed good.valid.rows;
    };
    shaped = AreShapedTables-with_row ts k t row at good.shaped new (HasShape-row sig t.family row valid) room;
  }

-- ---- a line without fault keeps tables

keeps-family : (sig : List TypeEntry) (n : ℕ) (ts : List Table) (f : Family) → Good sig ts → FamilyFault sig n ts (Some f) None → Good sig (ts ++ empty_table f ∷ [])
keeps-family sig n ts f good h =
    let is = none-of-three (IsFamily sig f) (¬ Has (families_of ts) f) (length ts < 8000) (BadFamily n) (FamilyTwice n) (TooManyFamilies n) h in
    with-family sig ts f good is.0 is.1 is.2

keeps-row : (sig : List TypeEntry) (n : ℕ) (ts : List Table) (row : Row) → Good sig ts → RowAfter sig n (row_count ts) (slice_get ts (last ts)) row None → Good sig (with_row ts (last ts) row)
keeps-row sig n ts row good h = by (slice_get ts (last ts)) refl h
  where
    by : (t : Option Table) → slice_get ts (last ts) ≡ t → RowAfter sig n (row_count ts) t row None → Good sig (with_row ts (last ts) row)
    by None at g = absurd cc
    by (Some t) at g =
        let is = none-of-three (IsRow sig t.family row) (¬ Has t.rows row) (row_count ts < 200000) (BadRow n) (RowTwice n) (TooManyRows n) g in
        with-row sig ts (last ts) t row at good is.0 is.1 is.2

keeps : (sig : List TypeEntry) (n : ℕ) (s : Stage) (ts : List Table) (l : Option Line) → Good sig ts → FaultIs sig n s ts l None → Good sig (tables_after ts l)
keeps sig n s ts None good h = good
keeps sig n s ts (Some (line.Header v)) good h = good
keeps sig n s ts (Some line.End) good h = good
keeps sig n s ts (Some (line.Family None)) good h = good
keeps sig n s ts (Some (line.Chain None)) good h = good
keeps sig n s ts (Some (line.Row None)) good h = good
keeps sig n (Body v) ts (Some (line.Family (Some f))) good h = keeps-family sig n ts f good h
keeps sig n (Body One) ts (Some (line.Chain (Some f))) good h = absurd cc
keeps sig n (Body Two) ts (Some (line.Chain (Some f))) good h = keeps-family sig n ts f good h
keeps sig n (Body v) ts (Some (line.Row (Some row))) good h = keeps-row sig n ts row good h
keeps sig n Start ts (Some (line.Family (Some f))) good h = absurd cc
keeps sig n Start ts (Some (line.Chain (Some f))) good h = absurd cc
keeps sig n Start ts (Some (line.Row (Some row))) good h = absurd cc
keeps sig n Ended ts (Some (line.Family (Some f))) good h = absurd cc
keeps sig n Ended ts (Some (line.Chain (Some f))) good h = absurd cc
keeps sig n Ended ts (Some (line.Row (Some row))) good h = absurd cc
keeps sig n (Failed e) ts (Some (line.Family (Some f))) good h = absurd cc
keeps sig n (Failed e) ts (Some (line.Chain (Some f))) good h = absurd cc
keeps sig n (Failed e) ts (Some (line.Row (Some row))) good h = absurd cc

next : (sig : List TypeEntry) (n : ℕ) (s : Stage) (ts : List Table) (l : Option Line) (e : Option TabFault) → Good sig ts → FaultIs sig n s ts l e → Good sig (next_tables e ts l)
next sig n s ts l None good h = keeps sig n s ts l good h
next sig n s ts l (Some e) good h = good

at-end : (sig : List TypeEntry) (n : ℕ) (s : Stage) (ts us : List Table) (b : Bool) → Good sig ts → Ok us ≡ at_end n s ts b → Good sig us
at-end sig n Start ts us b good h = absurd cc
at-end sig n (Body v) ts us b good h = absurd cc
at-end sig n Ended ts us true good h = let same : us ≡ ts = cc in rw same good
at-end sig n Ended ts us false good h = absurd cc
at-end sig n (Failed f) ts us b good h = absurd cc

read : (sig : List TypeEntry) (n : ℕ) (s : Stage) (ts us : List Table) (ls : List (List ℕ)) → Good sig ts → IsOutcome sig n s ts ls (Ok us) → Good sig us
read sig n s ts us [] good h = absurd h
read sig n s ts us (l ∷ []) good h = at-end sig n s ts us (is_empty l) good h
read sig n s ts us (l ∷ m ∷ ls) good h =
    let said = line_of (words l) in
    read sig (n + 1) (next_stage h.0 s said) (next_tables h.0 ts said) us (m ∷ ls) (next sig n s ts said h.0 good h.1) h.2

good : (sig : List TypeEntry) (text : List ℕ) (ts : List Table) → TablesOf sig text (Ok ts) → Good sig ts
good sig text ts h = read sig 1 Start [] ts (lines text) (record { valid = AreTables-empty sig [] AllDifferent-[] (λ f has. absurd (let e = has.1 in cc)); shaped = AreShapedTables-empty [] AllDifferent-[] (omega arith) }) h

pub valid : (sig : List TypeEntry) (text : List ℕ) (ts : List Table) → TablesOf sig text (Ok ts) → AreTables sig ts
valid sig text ts h = (good sig text ts h).valid

pub shaped : (sig : List TypeEntry) (text : List ℕ) (ts : List Table) → TablesOf sig text (Ok ts) → AreShapedTables ts
shaped sig text ts h = (good sig text ts h).shaped
