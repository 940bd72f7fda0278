-- What tables hold, by the numbers of their families.
use Rattle.std.proofs.Common.{◌≡◌, ℕ, ◌<◌, inl, inr, List, [], length, refl, sym, ap, ◌∙◌}
use Rattle.std.specs.Prelude.{Option, Some, None, slice_get}
use Rattle.kasa_graph.specs.Lists.{Has, AllDifferent}
use Rattle.kasa_graph.proofs.ListLemmas.{some_at}
use Rattle.kasa_graph.specs.Signature.{TypeEntry}
use Rattle.kasa_families.specs.declared.family.Family.{Family}
use Rattle.kasa_families.specs.declared.row.Row.{Row}
use Rattle.kasa_families.specs.Row.{IsRow}
use Rattle.kasa_families.specs.Table.{Table, AreTables, families_of, rows_of, Holds, IsWithin}
use Rattle.kasa_families.proofs.TableLemmas.{IsFamily-of_tables, family_at, table_of, rows_of-some, rows_of-none}
use Rattle.kasa_fixpoint.specs.Growing.{HaveRowsOf, TakesIn}

pub numbered : (tables : List Table) (f : ℕ) → f < length tables → (family : Family) × (slice_get (families_of tables) f ≡ Some family)
numbered tables f within = let t = some_at tables f within in (t.0.family, family_at tables f t.0 (sym t.1))

pub Holds-at : (tables : List Table) (f : ℕ) (family : Family) (row : Row) → slice_get (families_of tables) f ≡ Some family → Has (rows_of tables f) row → Holds tables family row
Holds-at tables f family row named has =
    let t = table_of tables f family named in
    record { table = t.0; among = (f, t.1); of_family = t.2; has_row = rw (rows_of-some tables f t.0 (sym t.1)) at has }

pub number_of : (tables : List Table) (family : Family) (row : Row) → Holds tables family row → (f : ℕ) × (slice_get (families_of tables) f ≡ Some family) × Has (rows_of tables f) row
number_of tables family row holds =
    let at = sym holds.among.1 in
    (holds.among.0, family_at tables holds.among.0 holds.table at ∙ ap Some holds.of_family, rw (rows_of-some tables holds.among.0 holds.table at) holds.has_row)

pub Has-at : (tables : List Table) (f : ℕ) (family : Family) (row : Row) → AllDifferent (families_of tables) → slice_get (families_of tables) f ≡ Some family → Holds tables family row → Has (rows_of tables f) row
Has-at tables f family row different named holds =
    let n = number_of tables family row holds in
    rw (different n.0 f family n.1 named) at n.2

-- where there are rows there is a table
table_with : (tables : List Table) (k : ℕ) (row : Row) (o : Option Table) → o ≡ slice_get tables k → Has (rows_of tables k) row → (t : Table) × (Some t ≡ slice_get tables k)
table_with tables k row None e has = absurd (let none : slice_get [] has.0 ≡ Some row = rw (rows_of-none tables k e) at has.1 in cc)
table_with tables k row (Some t) e has = (t, e)

pub HaveRowsOf-within : (first second : List Table) → AllDifferent (families_of first) → families_of second ≡ families_of first → IsWithin first second → HaveRowsOf first second
HaveRowsOf-within first second different same within k row has =
    let t = table_with first k row (slice_get first k) refl has in
    let named = family_at first k t.0 t.1 in
    Has-at second k t.0.family row (rw same different) (rw same named) (within t.0.family row (Holds-at first k t.0.family row named has))

pub IsWithin-rows : (first second : List Table) → families_of second ≡ families_of first → HaveRowsOf first second → IsWithin first second
IsWithin-rows first second same have family row holds =
    let n = number_of first family row holds in
    Holds-at second n.0 family row (rw same n.1) (have n.0 row n.2)

-- tables that take in valid rows are valid still
module _ (sig : List TypeEntry) (old new : List Table) (f : ℕ) (family : Family) (rows : List Row) (ok : AreTables sig old) (named : slice_get (families_of old) f ≡ Some family) (valid : (row : Row) → Has rows row → IsRow sig family row) (takes : TakesIn f rows old new) where
  row_valid : (k : ℕ) (other : Family) (row : Row) → slice_get (families_of old) k ≡ Some other → Has (rows_of new k) row → IsRow sig other row
  row_valid k other row at has = elim (takes.only k row has) [
    | inl before ↦
        let t = table_of old k other at in
        let there : Has t.0.rows row = rw (rows_of-some old k t.0 (sym t.1)) at before in
        rw t.2 at (ok.rows t.0 (k, t.1) row there)
    | inr here ↦
        let also : slice_get (families_of old) f ≡ Some other = rw here.0 at at in
        let same : family ≡ other = cc in
        rw same at (valid row here.1)
  ]

  pub AreTables-takes : AreTables sig new
  AreTables-takes = record {
    different = rw takes.families ok.different;
    families = λ t has. IsFamily-of_tables sig old ok t.family (has.0, rw takes.families at (family_at new has.0 t (sym has.1)));
    rows_differ = λ t has. rw (rows_of-some new has.0 t (sym has.1)) at (takes.has_room.different has.0);
    rows = λ t has row among. row_valid has.0 t.family row (rw takes.families at (family_at new has.0 t (sym has.1))) (rw (rows_of-some new has.0 t (sym has.1)) among);
  }
