-- The rows of a family by number are those that the tables hold of it.
use Rattle.std.proofs.Common.{subst, ◌≡◌, ℕ, ◌↔◌, List, sym, ap, ◌∙◌, refl, Some}
use Rattle.std.specs.Prelude.{slice_get}
use Rattle.kasa_graph.specs.Lists.{Has, AllDifferent}
use Rattle.kasa_graph.specs.Signature.{TypeEntry}
use Rattle.kasa_families.specs.declared.family.Family.{Family}
use Rattle.kasa_families.specs.declared.family.Family.TheVariants.{View}
use Rattle.kasa_families.specs.declared.row.Local.{Local}
use Rattle.kasa_families.specs.declared.row.Row.{Row}
use Rattle.kasa_families.specs.declared.row.Row.TheVariants.{Locals}
use Rattle.kasa_families.specs.Row.{IsRow}
use Rattle.kasa_families.specs.Table.{Table, AreTables, families_of, rows_of, Holds}
use Rattle.kasa_families.proofs.RowTests.{AllDifferent-ascends}
use Rattle.kasa_families.proofs.TableLemmas.{IsFamily-of_tables, family_at, rows_of-some, table_of}
use Rattle.kasa_columns.specs.Choices.{IsInView}
use Rattle.kasa_columns.specs.Stands.{AreFrom}
use Rattle.kasa_columns.specs.Chosen.{ListsAt}

module _ (sig : List TypeEntry) (tables : List Table) (ok : AreTables sig tables) (f : ℕ) (family : Family) (named : slice_get (families_of tables) f ≡ Some family) where
  pub Has-held : (row : Row) → Holds tables family row → Has (rows_of tables f) row
  Has-held row held =
      let here : slice_get (families_of tables) held.among.0 ≡ Some family = family_at tables held.among.0 held.table (sym held.among.1) ∙ ap Some held.of_family in
      let same : held.among.0 ≡ f = ok.different held.among.0 f family here named in
      rw (← same, rows_of-some tables held.among.0 held.table (sym held.among.1)) held.has_row

  pub Holds-stored : (row : Row) → Has (rows_of tables f) row → Holds tables family row
  Holds-stored row has =
      let table = table_of tables f family named in
      record { table = table.0; among = (f, table.1); of_family = table.2; has_row = rw (rows_of-some tables f table.0 (sym table.1)) at has }

  pub IsRow-stored : (row : Row) → Has (rows_of tables f) row → IsRow sig family row
  IsRow-stored row has =
      let held = Holds-stored row has in
      subst (λ (x : Family). IsRow sig x row) held.of_family (ok.rows held.table held.among row held.has_row)

-- the local states that the rows of a view list at a site, by the site's place
pub lists_in_view : (sig : List TypeEntry) (tables : List Table) → AreTables sig tables → (f t s place : ℕ) (sites : List ℕ) → slice_get (families_of tables) f ≡ Some (View t sites) → slice_get sites place ≡ Some s → (l : Local) → AreFrom (ListsAt place) (rows_of tables f) l ↔ IsInView tables t sites s l
lists_in_view sig tables ok f t s place sites named at l = (there, back)
  where
    different : AllDifferent sites
    different = let valid = IsFamily-of_tables sig tables ok (View t sites) (f, named) in AllDifferent-ascends sites valid.2

    there : AreFrom (ListsAt place) (rows_of tables f) l → IsInView tables t sites s l
    there (row, has, (locals, e, listed)) = record { row = locals; holds = subst (λ (x : Row). Holds tables (View t sites) x) e (Holds-stored sig tables ok f (View t sites) named row has); number = place; site = at; listed = listed }

    back : IsInView tables t sites s l → AreFrom (ListsAt place) (rows_of tables f) l
    back v =
        let same : v.number ≡ place = different v.number place s v.site at in
        (Locals v.row, Has-held sig tables ok f (View t sites) named (Locals v.row) v.holds, (v.row, refl, rw same at v.listed))
