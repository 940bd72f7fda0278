-- Rows that are copied one by one, and what a table's rows are.
use Rattle.std.proofs.Common.{◌≡◌, ◌<◌, ◌≤◌, ◌+◌, ℕ, zero, suc, inl, inr, List, [], ◌∷◌, ◌++◌, length, take, sym, ap, ◌∙◌, arith, Result, Ok, Err, OnOk}
use Rattle.std.specs.Prelude.{Some, None, slice_get}
use Rattle.std.specs.List.{sum_by}
use Rattle.std.proofs.lemmas.List.Sums.{sum_by-cons}
use Rattle.std.proofs.lemmas.Option.{slice_get-map}
use Rattle.kasa_lists.specs.Lists.{Has, AllDifferent}
use Rattle.kasa_lists.proofs.Elements.{some_at, take-one_more}
use Rattle.kasa_lists.proofs.Options.{some_map}
use Rattle.kasa_families.specs.declared.family.Family.{Family}
use Rattle.kasa_families.specs.declared.row.Row.{Row}
use Rattle.kasa_families.specs.Family.{IsFamily}
use Rattle.kasa_families.specs.Row.{IsRow}
use Rattle.kasa_families.specs.Table.{Table, AreTables, AreShapedTables, HasShape, families_of, rows_of}
use Rattle.kasa_families.proofs.TableLemmas.{rows_of-some}
use Rattle.kasa_graph.specs.Signature.{TypeEntry}
use Rattle.kasa_report.specs.Section.{all_lines}
use Rattle.kasa_report.specs.Product.{IsProductRows}
use Rattle.kasa_report.specs.LemmasText.{table_lines}
use Rattle.kasa_report.specs.inner.Shown.{with_rows, AreInRowOrder, IsShown}

pub row_copied : {X : Type 0} (rows before after : List X) (k : ℕ) (row copy : X) → before ≡ take k rows → Some row ≡ slice_get rows k → copy ≡ row → after ≡ before ++ copy ∷ [] → after ≡ take (k + 1) rows
row_copied rows before after k row copy so_far at same more = more ∙ rw (so_far, same) (sym (take-one_more rows k row (sym at)))

pub row_there : {X : Type 0} (rows : List X) (k n : ℕ) → n ≡ length rows → k < n → None ≡ slice_get rows k → ⊥
row_there rows k n count within none = let at = (some_at rows k (omega (arith, count))).1 in let clash : None ≡ Some (some_at rows k (omega (arith, count))).0 = none ∙ at in cc

-- the table of a number, by its family and its rows
pub table_at : (tables : List Table) (f : ℕ) (family : Family) → Some family ≡ slice_get (families_of tables) f → (t : Table) × (slice_get tables f ≡ Some t) × (t.family ≡ family) × (rows_of tables f ≡ t.rows)
table_at tables f family at =
    let found = some_map (λ (t : Table). t.family) (slice_get tables f) family (sym (slice_get-map (λ (t : Table). t.family) tables f) ∙ sym at) in
    (found.0, found.1, found.2, rows_of-some tables f found.0 (sym found.1))

pub on_ok_then : {A E P Q : Type 0} (r : Result A E) → (P → Q) → OnOk r P → OnOk r Q
on_ok_then (Ok a) f p = f p
on_ok_then (Err e) f p = tt

-- ---- what holds of the rows of a table

row_few : (tables : List Table) (i : ℕ) (t : Table) → slice_get tables i ≡ Some t → length t.rows ≤ sum_by (λ t. length t.rows) tables
row_few [] i t at = absurd cc
row_few (u ∷ tables) zero t at = let same : u ≡ t = cc in let e = ap (λ (v : Table). length v.rows) same in let whole = sum_by-cons (λ (v : Table). length v.rows) u tables in omega arith
row_few (u ∷ tables) (suc i) t at = let h = row_few tables i t at in let whole = sum_by-cons (λ (v : Table). length v.rows) u tables in omega arith

module _ (tables : List Table) (f : ℕ) (family : Family) (at : Some family ≡ slice_get (families_of tables) f) where
  module _ (shaped : AreShapedTables tables) (copied : List Row) (same : copied ≡ rows_of tables f) where
    pub shaped_at : (row : Row) → Has copied row → HasShape family row
    shaped_at row has = let t = table_at tables f family at in rw t.2 at (shaped.shapes t.0 (f, t.1) row (rw (same, t.3) at has))

    pub differ_at : AllDifferent copied
    differ_at = let t = table_at tables f family at in rw (same, t.3) (shaped.rows_differ t.0 (f, t.1))

    pub few_at : length copied ≤ 200000
    few_at =
        let t = table_at tables f family at in
        let few = row_few tables f t.0 t.1 in
        let all = shaped.few_rows in
        let e = ap length (same ∙ t.3) in omega arith

  module _ (sig : List TypeEntry) (valid : AreTables sig tables) where
    pub family_at : IsFamily sig family
    family_at = let t = table_at tables f family at in rw t.2 at (valid.families t.0 (f, t.1))

    pub rows_at : (ordered : List Row) → AreInRowOrder (rows_of tables f) ordered → (row : Row) → Has ordered row → IsRow sig family row
    rows_at ordered in_order row has =
        let t = table_at tables f family at in
        rw t.2 at (valid.rows t.0 (f, t.1) row (rw t.3 at ((in_order.same row).0 has)))

    pub product_at : (copied : List Row) (old new : List ℕ) → copied ≡ rows_of tables f → IsProductRows family copied → new ≡ old → (t : Table) × (slice_get tables f ≡ Some t) × IsShown sig t old new
    product_at copied old new same product unchanged =
        let t = table_at tables f family at in
        (t.0, t.1, inl (rw t.2 (rw (same ∙ t.3) at product), unchanged))

    pub shown_at : (copied ordered : List Row) (old new : List ℕ) → copied ≡ rows_of tables f → ¬ IsProductRows family copied → AreInRowOrder (rows_of tables f) ordered → new ≡ old ++ all_lines (table_lines sig (with_rows family ordered)) →
        (t : Table) × (slice_get tables f ≡ Some t) × IsShown sig t old new
    shown_at copied ordered old new same other in_order written =
        let t = table_at tables f family at in
        let moved : AreInRowOrder t.0.rows ordered = rw t.3 at in_order in
        (t.0, t.1, inr (rw t.2 (rw (same ∙ t.3) at other), (with_rows family ordered, record { family = sym t.2; rows = moved.same; ascend = moved.ascend }, written)))
