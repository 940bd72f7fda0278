use Rattle.std.proofs.Common.{◌≡◌, ◌≢◌, ℕ, ◌≤◌, ◌+◌, List, get_or, refl, sym, ap, ◌∙◌, arith}
use Rattle.std.specs.Prelude.{Some, slice_get}
use Rattle.std.proofs.lemmas.Result.{err_from_is_err_and}
use Rattle.kasa_graph.specs.Lists.{Has}
use Rattle.kasa_families.specs.declared.family.Family.{Family}
use Rattle.kasa_families.specs.Table.{Table, rows_of, families_of, AreShapedTables}
use Rattle.kasa_families.proofs.TableLemmas.{rows_of-some}
use Rattle.kasa_tables.specs.Insert.{row_count}
use Rattle.kasa_tables.proofs.PlainLemmas.{table_at, written, AreShapedTables-with_row, row_count-with_row, rows-within}
use Rattle.kasa_tables.proofs.RootLemmas.{AreRoots-with_row}
use Rattle.kasa_tables.proofs.indexed.IndexedTables.insert.Goals as goal

-- the rows of the family are those of the table that was looked at
rows_there : (items tables : List Table) (n f : ℕ) (t : Table) → items ≡ tables → n ≡ f → (family : Family) → slice_get (families_of tables) f ≡ Some family → t ≡ get_or items n t → rows_of tables f ≡ t.rows
rows_there items tables n f t same number family named is = rows_of-some tables f t (sym (table_at items tables n f t family same number named is).0)

pub returns-then-has-clause-there : goal.returns-then-has-clause-there
returns-then-has-clause-there c =
    rw (rows_there c.self.inside.tables.items c.args.self.now c.f.inside.0 c.args.f c.index_mut-table.result.now c.self.view_is c.f.view_is c.requires.0 c.requires.1 c.index_mut-table.ensures.value)
    (λ _. c.has.ensures.0 c.if-has.true, λ _. refl)

pub returns-then-has-clause-full : goal.returns-then-has-clause-full
returns-then-has-clause-full c =
    rw (rows_there c.self.inside.tables.items c.args.self.now c.f.inside.0 c.args.f c.index_mut-table.result.now c.self.view_is c.f.view_is c.requires.0 c.requires.1 c.index_mut-table.ensures.value)
    (λ e. absurd cc, λ no. absurd (no.0 (c.has.ensures.0 c.if-has.true)))

pub returns-then-self-eq-MOST_ROWS-clause-there : goal.returns-then-self-eq-MOST_ROWS-clause-there
returns-then-self-eq-MOST_ROWS-clause-there c =
    rw (rows_there c.self.inside.tables.items c.args.self.now c.f.inside.0 c.args.f c.index_mut-table.result.now c.self.view_is c.f.view_is c.requires.0 c.requires.1 c.index_mut-table.ensures.value)
    (λ e. absurd cc, λ has. absurd (let yes = c.has.ensures.1 has in let no = c.if-has.false in cc))

pub returns-then-self-eq-MOST_ROWS-clause-full : goal.returns-then-self-eq-MOST_ROWS-clause-full
returns-then-self-eq-MOST_ROWS-clause-full c =
    rw (rows_there c.self.inside.tables.items c.args.self.now c.f.inside.0 c.args.f c.index_mut-table.result.now c.self.view_is c.f.view_is c.requires.0 c.requires.1 c.index_mut-table.ensures.value)
    (λ _. (λ has. absurd (let yes = c.has.ensures.1 has in let no = c.if-has.false in cc), rw (← c.self.view_is) (sym c.self.invariant.1 ∙ c.if-self-eq-MOST_ROWS.true)), λ _. refl)

pub returns-in_err-push-clause-there : goal.returns-in_err-push-clause-there
returns-in_err-push-clause-there c =
    let no_memory = err_from_is_err_and c.from_residual.result c.from_residual.ensures.1 in
    rw (rows_there c.self.inside.tables.items c.args.self.now c.f.inside.0 c.args.f c.index_mut-table.result.now c.self.view_is c.f.view_is c.requires.0 c.requires.1 c.index_mut-table.ensures.value)
    (λ e. absurd (let is = no_memory.1 in cc), λ has. absurd (let yes = c.has.ensures.1 has in let no = c.if-has.false in cc))

pub returns-in_err-push-clause-full : goal.returns-in_err-push-clause-full
returns-in_err-push-clause-full c =
    let no_memory = err_from_is_err_and c.from_residual.result c.from_residual.ensures.1 in
    (λ e. absurd (let is = no_memory.1 in let which = no_memory.2 in cc), λ full. absurd (c.if-self-eq-MOST_ROWS.false (c.self.invariant.1 ∙ rw c.self.view_is full.1)))

pub push-requires-clause-few : goal.push-requires-clause-few
push-requires-clause-few c =
    let found = table_at c.self.inside.tables.items c.args.self.now c.f.inside.0 c.args.f c.index_mut-table.result.now c.requires.0 c.self.view_is c.f.view_is c.requires.1 c.index_mut-table.ensures.value in
    let shaped : AreShapedTables c.args.self.now = rw c.self.view_is at c.self.invariant.0 in
    omega (arith, rows-within c.args.self.now c.args.f c.index_mut-table.result.now found.0, shaped.few_rows)

pub invariant_of-self-2 : goal.invariant_of-self-2
invariant_of-self-2 c =
    let t = c.index_mut-table.result.now in
    let found = table_at c.self.inside.tables.items c.args.self.now c.f.inside.0 c.args.f c.index_mut-table.result.now c.requires.0 c.self.view_is c.f.view_is c.requires.1 c.index_mut-table.ensures.value in
    let shaped : AreShapedTables c.args.self.now = rw c.self.view_is at c.self.invariant.0 in
    let count : c.self.inside.count ≡ row_count c.args.self.now = rw c.self.view_is at c.self.invariant.1 in
    let new : ¬ Has t.rows c.args.row = λ has. let yes = c.has.ensures.1 has in let no = c.if-has.false in cc in
    let few : row_count c.args.self.now ≤ 200000 = shaped.few_rows in
    let not_full : row_count c.args.self.now ≢ 200000 = λ e. c.if-self-eq-MOST_ROWS.false (count ∙ e) in
    rw (written c.self.inside.tables.items c.args.self.now c.f.inside.0 c.args.f t c.push.new.self c.args.row c.self.view_is c.f.view_is found.0 c.in_ok-push.ensures.ok) (
      AreShapedTables-with_row c.args.self.now c.args.f t c.args.row found.0 shaped new (rw found.1 c.requires.2) (omega arith),
      ap (λ n. n + 1) count ∙ sym (row_count-with_row c.args.self.now c.args.f t c.args.row found.0),
      AreRoots-with_row c.args.self.now c.self.inside.roots (rw c.self.view_is at c.self.invariant.2) c.args.f c.args.row,
    )

pub returns-clause-added : goal.returns-clause-added
returns-clause-added c =
    let found = table_at c.self.inside.tables.items c.args.self.now c.f.inside.0 c.args.f c.index_mut-table.result.now c.requires.0 c.self.view_is c.f.view_is c.requires.1 c.index_mut-table.ensures.value in
    λ _. written c.self.inside.tables.items c.args.self.now c.f.inside.0 c.args.f c.index_mut-table.result.now c.push.new.self c.args.row c.self.view_is c.f.view_is found.0 c.in_ok-push.ensures.ok

pub returns-clause-there : goal.returns-clause-there
returns-clause-there c =
    rw (rows_there c.self.inside.tables.items c.args.self.now c.f.inside.0 c.args.f c.index_mut-table.result.now c.self.view_is c.f.view_is c.requires.0 c.requires.1 c.index_mut-table.ensures.value)
    (λ e. absurd cc, λ has. absurd (let yes = c.has.ensures.1 has in let no = c.if-has.false in cc))
