-- Laws of first families of a type, of tables without rows, and of tables that take one row more.
use Rattle.std.proofs.Common.{get_or, ◌≡◌, ◌≢◌, ℕ, zero, suc, ◌+◌, ◌<◌, ◌≤◌, ◌⊎◌, inl, inr, List, [], ◌∷◌, ◌++◌, length, refl, sym, ap, ◌∙◌, arith, length-append}
use Rattle.std.specs.Prelude.{Some, slice_get, slice_set}
use Rattle.std.proofs.lemmas.List.{map-append}
use Rattle.std.proofs.lemmas.List.Sums.{sum_by-cons, sum_by-append}
use Rattle.std.proofs.lemmas.Option.{slice_get_past, get_or_from_slice_get}
use Rattle.kasa_graph.specs.Lists.{Has, AllDifferent, update}
use Rattle.kasa_graph.proofs.ListLemmas.{same_or_not, below_or, length-update, map-update_same, slice_set-update, AllDifferent-[], pushed_or}
use Rattle.kasa_graph.proofs.NewNameLemmas.{AllDifferent-push}
use Rattle.kasa_families.specs.declared.family.Family.{Family}
use Rattle.kasa_families.specs.declared.row.Row.{Row}
use Rattle.kasa_graph.specs.Signature.{TypeEntry}
use Rattle.kasa_families.specs.Family.{IsFamily, family_types}
use Rattle.kasa_families.specs.First.{IsRooted}
use Rattle.kasa_families.specs.Table.{Table, AreTables, families_of, HasShape, AreShapedTables}
use Rattle.kasa_families.proofs.TableLemmas.{family_at, table_of}
use Rattle.kasa_tables.specs.Insert.{empty_table, empty_tables, with_last, with_row, row_count}

-- ---- first families of a type

module _ (tables : List Table) (a : ℕ) where
  rooted_as : (f : ℕ) (t : Table) (b : ℕ) → Some t ≡ slice_get tables f → slice_get (family_types t.family) 0 ≡ Some b → IsRooted tables a f → b ≡ a
  rooted_as f t b at typed (family, named, rooted) =
      let same : t.family ≡ family = let e = family_at tables f t at in cc in
      let type : slice_get (family_types family) 0 ≡ Some b = rw same at typed in
      cc

  -- the search goes on where a family is of another type
  pub none_rooted : (from k : ℕ) (t : Table) (b : ℕ) → Some t ≡ slice_get tables k → slice_get (family_types t.family) 0 ≡ Some b → b ≢ a → ((j : ℕ) → from ≤ j → j < k → ¬ IsRooted tables a j) → (j : ℕ) → from ≤ j → j < k + 1 → ¬ IsRooted tables a j
  none_rooted from k t b at typed other before j up below h = elim (same_or_not j k) [
    | inl e ↦ other (rooted_as k t b at typed (rw e at h))
    | inr ne ↦ before j up (omega arith) h
  ]

  pub rooted_within : (f : ℕ) → IsRooted tables a f → f < length tables
  rooted_within f (family, named, rooted) = elim (below_or f (length tables)) [
    | inl within ↦ within
    | inr past ↦ absurd (let t = table_of tables f family named in let none = slice_get_past tables f (omega (arith, past.1)) in cc)
  ]

  pub none_at_all : (from k : ℕ) → length tables ≤ k → ((j : ℕ) → from ≤ j → j < k → ¬ IsRooted tables a j) → (j : ℕ) → from ≤ j → ¬ IsRooted tables a j
  none_at_all from k past before j up h = let within = rooted_within j h in before j up (omega arith) h

-- ---- tables without rows

row_count-cons : (t : Table) (tables : List Table) → row_count (t ∷ tables) ≡ length t.rows + row_count tables
row_count-cons t tables = sum_by-cons (λ (t : Table). length t.rows) t tables

pub families_of-empty : (families : List Family) → families_of (empty_tables families) ≡ families
families_of-empty [] = refl
families_of-empty (family ∷ families) = ap (λ r. family ∷ r) (families_of-empty families)

pub row_count-empty : (families : List Family) → row_count (empty_tables families) ≡ 0
row_count-empty [] = refl
row_count-empty (family ∷ families) = row_count-empty families

no_rows : (families : List Family) (t : Table) → Has (empty_tables families) t → t.rows ≡ []
no_rows [] t has = absurd (let e = has.1 in cc)
no_rows (family ∷ families) t (zero, e) = let same : empty_table family ≡ t = cc in rw (← same) refl
no_rows (family ∷ families) t (suc k, e) = no_rows families t (k, e)

length-empty : (families : List Family) → length (empty_tables families) ≡ length families
length-empty [] = refl
length-empty (family ∷ families) = ap suc (length-empty families)

shaped_rows : (t : Table) → t.rows ≡ [] → (row : Row) → Has t.rows row → HasShape t.family row
shaped_rows t none row has = absurd (let e : slice_get [] has.0 ≡ Some row = rw none at has.1 in cc)

pub AreShapedTables-empty : (families : List Family) → AllDifferent families → length families ≤ 8000 → AreShapedTables (empty_tables families)
AreShapedTables-empty families different few = record {
  different = rw (families_of-empty families) different;
  rows_differ = λ t has. rw (no_rows families t has) AllDifferent-[];
  shapes = λ t has. shaped_rows t (no_rows families t has);
  few = rw (length-empty families) few;
  few_rows = rw (row_count-empty families) (omega arith);
}

no_row : (rows : List Row) (row : Row) → rows ≡ [] → ¬ Has rows row
no_row rows row none has = let e : slice_get [] has.0 ≡ Some row = rw none at has.1 in cc

pub AreTables-empty : (sig : List TypeEntry) (families : List Family) → AllDifferent families → ((family : Family) → Has families family → IsFamily sig family) → AreTables sig (empty_tables families)
AreTables-empty sig families different valid = record {
  different = rw (families_of-empty families) different;
  families = λ t has. valid t.family (has.0, rw (families_of-empty families) at (family_at (empty_tables families) has.0 t (sym has.1)));
  rows_differ = λ t has. rw (no_rows families t has) AllDifferent-[];
  rows = λ t has row among. absurd (no_row t.rows row (no_rows families t has) among);
}

-- ---- tables with one row more

updated_or : {X : Type 0} (xs : List X) (i : ℕ) (g : X → X) (t u : X) → slice_get xs i ≡ Some t → Has (update xs i g) u → (u ≡ g t) ⊎ Has xs u
updated_or [] i g t u at has = absurd cc
updated_or (z ∷ xs) zero g t u at (zero, e) = inl cc
updated_or (z ∷ xs) zero g t u at (suc k, e) = inr (suc k, e)
updated_or (z ∷ xs) (suc i) g t u at (zero, e) = inr (0, e)
updated_or (z ∷ xs) (suc i) g t u at (suc k, e) = elim (updated_or xs i g t u at (k, e)) [ inl same ↦ inl same | inr h ↦ inr (suc h.0, h.1) ]

pub row_count-with_row : (tables : List Table) (f : ℕ) (t : Table) (row : Row) → slice_get tables f ≡ Some t → row_count (with_row tables f row) ≡ row_count tables + 1
row_count-with_row [] f t row at = absurd cc
row_count-with_row (u ∷ tables) zero t row at =
    let after : row_count (with_row (u ∷ tables) 0 row) ≡ length (u.rows ++ row ∷ []) + row_count tables = row_count-cons (with_last row u) tables in
    let before = row_count-cons u tables in
    let longer : length (u.rows ++ row ∷ []) ≡ length u.rows + 1 = length-append u.rows (row ∷ []) in
    omega arith
row_count-with_row (u ∷ tables) (suc f) t row at =
    let after : row_count (with_row (u ∷ tables) (suc f) row) ≡ length u.rows + row_count (with_row tables f row) = row_count-cons u (with_row tables f row) in
    let before = row_count-cons u tables in
    let rest = row_count-with_row tables f t row at in
    omega arith

module _ (tables : List Table) (f : ℕ) (t : Table) (row : Row) (at : slice_get tables f ≡ Some t) (shaped : AreShapedTables tables) (new : ¬ Has t.rows row) (fits : HasShape t.family row) where
  differ_as : (u other : Table) → u ≡ other → AllDifferent u.rows → AllDifferent other.rows
  differ_as u other e h = rw e at h

  rows_differ : (u : Table) → Has (with_row tables f row) u → AllDifferent u.rows
  rows_differ u has = elim (updated_or tables f (with_last row) t u at has) [
    | inl e ↦ differ_as (with_last row t) u (sym e) (AllDifferent-push t.rows row (shaped.rows_differ t (f, at)) new)
    | inr old ↦ shaped.rows_differ u old
  ]

  shape_of_pushed : (other : Row) → Has (t.rows ++ row ∷ []) other → HasShape t.family other
  shape_of_pushed other has = elim (pushed_or t.rows row other has.0 has.1) [
    | inl e ↦ shaped.shapes t (f, at) other (has.0, e)
    | inr e ↦ (rw e fits)
  ]

  shapes_as : (u other : Table) → u ≡ other → ((r : Row) → Has u.rows r → HasShape u.family r) → (r : Row) → Has other.rows r → HasShape other.family r
  shapes_as u other e h = rw e at h

  shapes : (u : Table) → Has (with_row tables f row) u → (r : Row) → Has u.rows r → HasShape u.family r
  shapes u has = elim (updated_or tables f (with_last row) t u at has) [
    | inl e ↦ shapes_as (with_last row t) u (sym e) shape_of_pushed
    | inr old ↦ shaped.shapes u old
  ]

  pub AreShapedTables-with_row : row_count tables < 200000 → AreShapedTables (with_row tables f row)
  AreShapedTables-with_row room = record {
    different = rw (map-update_same (λ (t : Table). t.family) (with_last row) tables f t at refl) shaped.different;
    rows_differ = rows_differ;
    shapes = shapes;
    few = rw (length-update tables f (with_last row)) shaped.few;
    few_rows = rw (row_count-with_row tables f t row at) (omega arith);
  }

-- the table that stands at the number of a family
pub table_at : (items tables : List Table) (n f : ℕ) (t : Table) (family : Family) → items ≡ tables → n ≡ f → slice_get (families_of tables) f ≡ Some family → t ≡ get_or items n t → (slice_get tables f ≡ Some t) × (t.family ≡ family)
table_at items tables n f t family same number named is =
    let found = table_of tables f family named in
    let there : t ≡ found.0 = rw (same, number) at is ∙ get_or_from_slice_get tables f found.0 t found.1 in
    rw there (found.1, found.2)

-- the tables whose f-th one is written anew
pub written : (items tables : List Table) (n f : ℕ) (t u : Table) (row : Row) → items ≡ tables → n ≡ f → slice_get tables f ≡ Some t → u ≡ with_last row t → slice_set items n u ≡ with_row tables f row
written items tables n f t u row same number at e = rw (same, number) (slice_set-update tables f t u (with_last row) at (sym e))

-- ---- tables with one family more

pub row_count-with_family : (tables : List Table) (family : Family) → row_count (tables ++ empty_table family ∷ []) ≡ row_count tables
row_count-with_family tables family = let e = sum_by-append (λ (t : Table). length t.rows) tables (empty_table family ∷ []) in omega (arith, e)

pub AreShapedTables-with_family : (tables : List Table) (family : Family) → AreShapedTables tables → ¬ Has (families_of tables) family → length tables < 8000 → AreShapedTables (tables ++ empty_table family ∷ [])
AreShapedTables-with_family tables family shaped new room = record {
  different = rw (map-append (λ (t : Table). t.family) tables (empty_table family ∷ [])) (AllDifferent-push (families_of tables) family shaped.different new);
  rows_differ = λ t has. elim (pushed_or tables (empty_table family) t has.0 has.1) [
    | inl e ↦ shaped.rows_differ t (has.0, e)
    | inr e ↦ (rw e AllDifferent-[])
  ];
  shapes = λ t has. elim (pushed_or tables (empty_table family) t has.0 has.1) [
    | inl e ↦ shaped.shapes t (has.0, e)
    | inr e ↦ shaped_rows t (rw e refl)
  ];
  few = rw (length-append tables (empty_table family ∷ [])) (omega arith);
  few_rows = rw (row_count-with_family tables family) shaped.few_rows;
}

-- ---- how many rows there are of one family

pub rows-within : (tables : List Table) (f : ℕ) (t : Table) → slice_get tables f ≡ Some t → length t.rows ≤ row_count tables
rows-within [] f t at = absurd cc
rows-within (u ∷ tables) zero t at = let same : u ≡ t = cc in let count = row_count-cons u tables in rw (← same) (omega (arith, count))
rows-within (u ∷ tables) (suc f) t at = let count = row_count-cons u tables in let rest = rows-within tables f t at in omega (arith, count, rest)
