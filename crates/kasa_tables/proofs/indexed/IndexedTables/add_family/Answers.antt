use Rattle.std.proofs.Common.{sym, ◌∙◌, ◌<◌, length}
use Rattle.kasa_graph.specs.Lists.{Has}
use Rattle.kasa_families.specs.Table.{families_of}
use Rattle.kasa_tables.proofs.PlainLemmas.{AreShapedTables-with_family, row_count-with_family}
use Rattle.kasa_tables.proofs.indexed.IndexedTables.add_family.Goals as goal

pub invariant_of-self-2 : goal.invariant_of-self-2
invariant_of-self-2 c =
    let tables = c.self.inside.tables.items in
    let fresh : ¬ Has (families_of tables) c.args.family = rw (← c.self.view_is) at c.requires.new in
    let room : length tables < 8000 = rw (← c.self.view_is) at c.requires.few in
    rw c.in_ok-add_table.ensures.ok (
      AreShapedTables-with_family tables c.args.family c.self.invariant.0 fresh room,
      c.self.invariant.1 ∙ sym (row_count-with_family tables c.args.family),
      rw c.in_ok-add_table.ensures.ok at c.add_table.ensures.roots,
    )
