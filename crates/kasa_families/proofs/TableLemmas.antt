-- Laws of tables.
use Rattle.std.proofs.Common.{◌≡◌, ℕ, List, [], refl, sym, ◌∙◌}
use Rattle.std.specs.Prelude.{Some, None, slice_get}
use Rattle.std.proofs.lemmas.Option.{slice_get-map}
use Rattle.kasa_graph.specs.Signature.{TypeEntry}
use Rattle.kasa_graph.specs.Lists.{Has}
use Rattle.kasa_graph.proofs.ListLemmas.{some_map}
use Rattle.kasa_families.specs.declared.family.Family.{Family}
use Rattle.kasa_families.specs.Family.{IsFamily}
use Rattle.kasa_families.specs.Table.{Table, AreTables, families_of, rows_of}

-- the families of tables are valid
pub IsFamily-of_tables : (sig : List TypeEntry) (tables : List Table) → AreTables sig tables → (family : Family) → Has (families_of tables) family → IsFamily sig family
IsFamily-of_tables sig tables ok family has =
    let table = some_map (λ (t : Table). t.family) (slice_get tables has.0) family (sym (slice_get-map (λ (t : Table). t.family) tables has.0) ∙ has.1) in
    rw (← table.2) (ok.families table.0 (has.0, table.1))

-- ---- tables by number

pub rows_of-some : (tables : List Table) (f : ℕ) (t : Table) → Some t ≡ slice_get tables f → rows_of tables f ≡ t.rows
unfolding rows_of
rows_of-some tables f t e = rw (← e) refl

pub rows_of-none : (tables : List Table) (f : ℕ) → None ≡ slice_get tables f → rows_of tables f ≡ []
unfolding rows_of
rows_of-none tables f e = rw (← e) refl

pub family_at : (tables : List Table) (f : ℕ) (t : Table) → Some t ≡ slice_get tables f → slice_get (families_of tables) f ≡ Some t.family
family_at tables f t e = slice_get-map (λ (t : Table). t.family) tables f ∙ rw (← e) refl

pub table_of : (tables : List Table) (f : ℕ) (family : Family) → slice_get (families_of tables) f ≡ Some family → (t : Table) × (slice_get tables f ≡ Some t) × (t.family ≡ family)
table_of tables f family e = some_map (λ (t : Table). t.family) (slice_get tables f) family (sym (slice_get-map (λ (t : Table). t.family) tables f) ∙ e)
