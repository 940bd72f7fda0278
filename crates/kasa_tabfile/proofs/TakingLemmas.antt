-- What is wrong with a row's line.
use Rattle.std.proofs.Common.{◌≡◌, ◌≢◌, ◌∙◌, ◌≤◌, ◌↔◌, inl, inr, ℕ, List, Bool, IsTrue, refl, sym, ap, subst, arith, Some, None, Option}
use Rattle.std.specs.Prelude.{slice_get}
use Rattle.std.proofs.lemmas.Option.{slice_get-map}
use Rattle.std.proofs.lemmas.Slice.Zip.{AllZip-long}
use Rattle.kasa_lists.specs.Lists.{Has}
use Rattle.kasa_graph.specs.Signature.{TypeEntry}
use Rattle.kasa_families.specs.declared.family.Family.{Family}
use Rattle.kasa_families.specs.declared.family.Family.TheVariants.{Parallel}
use Rattle.kasa_families.specs.declared.row.Row.{Row}
use Rattle.kasa_families.specs.declared.row.Row.TheVariants.{Locals, Same, Different}
use Rattle.kasa_families.specs.Local.{IsLocal}
use Rattle.kasa_families.specs.Shape.{Nth}
use Rattle.kasa_families.specs.Family.{shape_of}
use Rattle.kasa_families.specs.Row.{IsRow}
use Rattle.kasa_families.specs.Table.{Table, AreShapedTables, HasShape, families_of, rows_of}
use Rattle.kasa_families.proofs.TableLemmas.{rows_of-some}
use Rattle.kasa_tables.specs.Insert.{row_count}
use Rattle.kasa_tabfile.specs.declared.fault.TabFault.{TabFault}
use Rattle.kasa_tabfile.specs.declared.fault.TabFault.TheVariants.{BadLine, BadRow, RowTwice, TooManyRows}
use Rattle.kasa_tabfile.specs.declared.line.Line.{Line}
use Rattle.kasa_tabfile.specs.declared.line.Line.TheVariants as line
use Rattle.kasa_tabfile.specs.declared.line.Version.{Version}
use Rattle.kasa_tabfile.specs.declared.stage.Stage.{Stage}
use Rattle.kasa_tabfile.specs.declared.stage.Stage.TheVariants.{Start, Body, Ended, Failed}
use Rattle.kasa_tabfile.specs.Outcome.{last, RowAfter}
use Rattle.kasa_tabfile.specs.inner.Taking.{first_stage, outer_stage, IsTaken}
use Rattle.kasa_tabfile.proofs.WrittenLemmas.{table_at}

-- the table of a number is there, and has the row
abbrev pub IsRowAt : List TypeEntry → List Table → ℕ → Row → Type 0
IsRowAt sig ts f row = (t : Table) × (slice_get ts f ≡ Some t) × IsRow sig t.family row

pub row_at : (sig : List TypeEntry) (ts : List Table) (f : ℕ) (family : Family) (row : Row) (b : Bool) → Some family ≡ slice_get (families_of ts) f → (IsTrue b ↔ IsRow sig family row) → IsTrue b ↔ IsRowAt sig ts f row
row_at sig ts f family row b at is =
    let t = table_at ts f family at in
    let valid : Family → Type 0 = λ g. IsRow sig g row in
    (λ yes. (t.0, t.1, subst valid (sym t.2) (is.0 yes)), λ (u, there, h). is.1 (let same : u ≡ t.0 = cc in subst valid (ap (λ (v : Table). v.family) same ∙ t.2) h))

pub no_row_at : (sig : List TypeEntry) (ts : List Table) (f : ℕ) (row : Row) → None ≡ slice_get (families_of ts) f → ¬ IsRowAt sig ts f row
no_row_at sig ts f row none (t, at, valid) =
    let here : slice_get (families_of ts) f ≡ Some t.family = slice_get-map (λ (v : Table). v.family) ts f ∙ rw at refl in
    let clash : None ≡ Some t.family = none ∙ here in cc

pub HasShape-row : (sig : List TypeEntry) (family : Family) (row : Row) → IsRow sig family row → HasShape family row
HasShape-row sig (Parallel a x u b y w) Same ok = tt
HasShape-row sig (Parallel a x u b y w) Different ok = tt
HasShape-row sig (Parallel a x u b y w) (Locals locals) ok = absurd ok
HasShape-row sig family (Locals locals) ok = AllZip-long (λ s l. Nth (shape_of family).types s.node (λ a. IsLocal sig a s.site l)) (shape_of family).columns locals ok
HasShape-row sig family row ok = absurd ok

pub bad_row : (sig : List TypeEntry) (n : ℕ) (ts : List Table) (f : ℕ) (row : Row) → f ≡ last ts → ¬ IsRowAt sig ts f row → RowAfter sig n (row_count ts) (slice_get ts (last ts)) row (Some (BadRow n))
bad_row sig n ts f row is none = by (slice_get ts (last ts)) refl
  where
    by : (t : Option Table) → slice_get ts (last ts) ≡ t → RowAfter sig n (row_count ts) t row (Some (BadRow n))
    by None at = refl
    by (Some t) at = inl (λ valid. none (t, rw is at, valid), refl)

module _ (sig : List TypeEntry) (n : ℕ) (ts : List Table) (f : ℕ) (row : Row) (is : f ≡ last ts) (there : IsRowAt sig ts f row) where
  pub can_insert : (family : Family) × (slice_get (families_of ts) f ≡ Some family) × HasShape family row
  can_insert =
      let t = there.0 in
      (t.family, slice_get-map (λ (v : Table). v.family) ts f ∙ rw there.1 refl, HasShape-row sig t.family row there.2)

  rows_are : rows_of ts f ≡ there.0.rows
  rows_are = rows_of-some ts f there.0 (sym there.1)

  after : (e : Option TabFault) → RowAfter sig n (row_count ts) (Some there.0) row e → RowAfter sig n (row_count ts) (slice_get ts (last ts)) row e
  after e h = rw (← is, there.1) h

  pub twice : Has (rows_of ts f) row → RowAfter sig n (row_count ts) (slice_get ts (last ts)) row (Some (RowTwice n))
  twice has = after (Some (RowTwice n)) (inr (there.2, inl (λ new. new (rw rows_are at has), refl)))

  pub full : ¬ Has (rows_of ts f) row → row_count ts ≡ 200000 → RowAfter sig n (row_count ts) (slice_get ts (last ts)) row (Some (TooManyRows n))
  full new many = after (Some (TooManyRows n)) (inr (there.2, inr (λ has. new (rw rows_are has), inl (λ few. omega arith, refl))))

  pub fine : ¬ Has (rows_of ts f) row → AreShapedTables ts → (row_count ts ≢ 200000) → RowAfter sig n (row_count ts) (slice_get ts (last ts)) row None
  fine new shaped room =
      let most : row_count ts ≤ 200000 = shaped.few_rows in
      after None (inr (there.2, inr (λ has. new (rw rows_are has), inr (omega arith, refl))))

-- ---- lines outside

first_taken : (sig : List TypeEntry) (n : ℕ) (ts : List Table) (l : Option Line) → IsTaken sig n Start ts l ts (first_stage n l)
first_taken sig n ts None = (Some (BadLine n), refl, refl, refl)
first_taken sig n ts (Some (line.Header v)) = (None, refl, refl, refl)
first_taken sig n ts (Some (line.Family f)) = (Some (BadLine n), refl, refl, refl)
first_taken sig n ts (Some (line.Chain f)) = (Some (BadLine n), refl, refl, refl)
first_taken sig n ts (Some (line.Row row)) = (Some (BadLine n), refl, refl, refl)
first_taken sig n ts (Some line.End) = (Some (BadLine n), refl, refl, refl)

pub outside_taken : (sig : List TypeEntry) (n : ℕ) (s : Stage) (ts : List Table) (l : Option Line) (after : Stage) → ((v : Version) → s ≢ Body v) → after ≡ outer_stage n s l → IsTaken sig n s ts l ts after
outside_taken sig n Start ts l after out is = rw is (first_taken sig n ts l)
outside_taken sig n (Body v) ts l after out is = absurd (out v refl)
outside_taken sig n Ended ts l after out is = (Some (BadLine n), refl, is, refl)
outside_taken sig n (Failed e) ts l after out is = (Some e, refl, is, refl)
