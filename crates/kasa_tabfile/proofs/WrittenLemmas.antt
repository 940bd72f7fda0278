-- Tables that are written one after another.
use Rattle.std.proofs.Common.{◌≡◌, ◌<◌, ◌≤◌, ◌+◌, ℕ, List, [], ◌∷◌, ◌++◌, length, take, sym, ◌∙◌, arith, append_assoc, Result, Ok, Err, OnOk}
use Rattle.std.specs.Prelude.{Some, None, slice_get, codes}
use Rattle.std.specs.List.{flat_map}
use Rattle.std.proofs.lemmas.List.{append-nil, take_all}
use Rattle.std.proofs.lemmas.Grind.{flat_map-append}
use Rattle.std.proofs.lemmas.Option.{slice_get-map}
use Rattle.kasa_lists.specs.Lists.{AllDifferent}
use Rattle.kasa_lists.proofs.Elements.{some_at, take-one_more}
use Rattle.kasa_lists.proofs.Options.{some_map}
use Rattle.kasa_families.specs.declared.family.Family.{Family}
use Rattle.kasa_families.specs.declared.row.Row.{Row}
use Rattle.kasa_families.specs.Table.{Table, AreShapedTables, families_of, rows_of}
use Rattle.kasa_families.proofs.TableLemmas.{rows_of-some}
use Rattle.kasa_tabfile.specs.TablesText.{IsOrdered, AreOrdered, IsTextOf, family_line, ended, row_text, tables_text, table_text}
use Rattle.kasa_tabfile.specs.inner.Written.{AreInRowOrder, AddsTable, AddsTables}

-- ---- rows

pub row_copied : {X : Type 0} (rows before after : List X) (k : ℕ) (row copy : X) → before ≡ take k rows → Some row ≡ slice_get rows k → copy ≡ row → after ≡ before ++ copy ∷ [] → after ≡ take (k + 1) rows
row_copied rows before after k row copy so_far at same more = more ∙ rw (so_far, same) (sym (take-one_more rows k row (sym at)))

pub row_there : {X : Type 0} (rows : List X) (k n : ℕ) → n ≡ length rows → k < n → None ≡ slice_get rows k → ⊥
row_there rows k n count within none = let at = (some_at rows k (omega (arith, count))).1 in let clash : None ≡ Some (some_at rows k (omega (arith, count))).0 = none ∙ at in cc

-- ---- a table

-- the table of a number, by its family and its rows
pub table_at : (tables : List Table) (f : ℕ) (family : Family) → Some family ≡ slice_get (families_of tables) f → (t : Table) × (slice_get tables f ≡ Some t) × (t.family ≡ family) × (rows_of tables f ≡ t.rows)
table_at tables f family at =
    let found = some_map (λ (t : Table). t.family) (slice_get tables f) family (sym (slice_get-map (λ (t : Table). t.family) tables f) ∙ sym at) in
    (found.0, found.1, found.2, rows_of-some tables f found.0 (sym found.1))

module _ (tables : List Table) (f : ℕ) (family : Family) (at : Some family ≡ slice_get (families_of tables) f) (copied : List Row) (same : copied ≡ rows_of tables f) where
  pub differ_at : AreShapedTables tables → AllDifferent copied
  differ_at shaped = let t = table_at tables f family at in rw (same, t.3) (shaped.rows_differ t.0 (f, t.1))

  pub table_written : (ordered : List Row) (first middle now : List ℕ) → AreInRowOrder copied ordered → middle ≡ first ++ ended (family_line family) → now ≡ middle ++ flat_map row_text ordered →
      AddsTable tables f first now
  table_written ordered first middle now order head rest =
      let t = table_at tables f family at in
      let o : Table = record { family = family; rows = ordered } in
      let rows = rw (same, t.3) at order in
      (t.0, o, t.1, record { family = sym t.2; rows = rows.same; ascend = rows.ascend }, rest ∙ rw head (append_assoc first (ended (family_line family)) (flat_map row_text ordered)))

-- ---- tables

ordered_last : (tables ordered : List Table) (t o : Table) → AreOrdered tables ordered → IsOrdered t o → AreOrdered (tables ++ t ∷ []) (ordered ++ o ∷ [])
ordered_last [] [] t o are is = (is, tt)
ordered_last [] (p ∷ ordered) t o are is = absurd are
ordered_last (u ∷ tables) [] t o are is = absurd are
ordered_last (u ∷ tables) (p ∷ ordered) t o are is = (are.0, ordered_last tables ordered t o are.1 is)

pub written_none : (first : List ℕ) → AddsTables [] first first
written_none first = ([], tt, sym (append-nil first))

pub written_more : (tables : List Table) (f : ℕ) (first before after : List ℕ) → AddsTables (take f tables) first before →
    AddsTable tables f before after → AddsTables (take (f + 1) tables) first after
written_more tables f first before after so_far (t, o, at, ordered, more) = (
  so_far.0 ++ o ∷ [],
  rw (take-one_more tables f t at) (ordered_last (take f tables) so_far.0 t o so_far.1 ordered),
  more ∙ rw (so_far.2, flat_map-append table_text so_far.0 (o ∷ []), append-nil (table_text o)) (append_assoc first (flat_map table_text so_far.0) (table_text o)),
)

pub written_all : (tables : List Table) (k : ℕ) (first now : List ℕ) → length tables ≤ k → AddsTables (take k tables) first now → AddsTables tables first now
written_all tables k first now end w = rw (take_all k tables end) at w

pub text_written : (tables : List Table) (head middle text : List ℕ) → head ≡ codes "kasa tables 2\n" → AddsTables tables head middle → text ≡ middle ++ codes "end\n" → IsTextOf tables text
text_written tables head middle text is w end = (w.0, w.1, end ∙ rw (w.2, is) (λ i. tables_text w.0))

pub on_ok_then : {A E P Q : Type 0} (r : Result A E) → (P → Q) → OnOk r P → OnOk r Q
on_ok_then (Ok a) f p = f p
on_ok_then (Err e) f p = tt
