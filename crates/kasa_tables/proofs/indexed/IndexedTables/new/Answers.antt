use Rattle.std.proofs.Common.{◌≡◌, sym, refl, ap, ◌∙◌, length}
use Rattle.std.proofs.lemmas.Option.{slice_get_read}
use Rattle.std.proofs.lemmas.Iterator.Adapters.{YieldsList-from_vec}
use Rattle.std.proofs.lemmas.Iterator.Consumers.{YieldsList-end, YieldsList-turn}
use Rattle.kasa_graph.proofs.ListLemmas.{map-same}
use Rattle.kasa_tables.specs.Insert.{empty_tables}
use Rattle.kasa_tables.proofs.PlainLemmas.{AreShapedTables-empty, row_count-empty}
use Rattle.kasa_tables.proofs.IndexLemmas.{few_columns}
use Rattle.kasa_tables.proofs.indexed.IndexedTables.new.Goals as goal

pub add_table-requires-clause-columns : goal.add_table-requires-clause-columns
add_table-requires-clause-columns c =
    let start = c.into_iter-family-iterator.ensures.into_iter_gives in
    let turn = YieldsList-turn (YieldsList-from_vec c.args.families.items start.0 (start.1 ∙ c.args.families.ok.0)) c.loop-family.yielded c.loop-family.family-iterator c.loop-family.yielded_by c.next.result c.next.new.self c.in-Some.family c.in-Some.is c.next.ensures.steps in
    let there = slice_get_read c.args.families.items (length c.args.families.items) (length c.loop-family.yielded) c.in-Some.family refl turn.0 turn.1 in
    few_columns c.args.sig.now c.in-Some.family (c.requires.valid c.in-Some.family (length c.loop-family.yielded, there))

pub invariant_of-result : goal.invariant_of-result
invariant_of-result c =
    let start = c.into_iter-family-iterator.ensures.into_iter_gives in
    let all = YieldsList-end (YieldsList-from_vec c.args.families.items start.0 (start.1 ∙ c.args.families.ok.0)) c.loop-family.yielded c.loop-family.family-iterator c.loop-family.yielded_by c.next.result c.next.new.self c.in-None.is c.next.ensures.steps in
    let each : c.loop-family.yielded ≡ c.args.families.items = sym (map-same (λ y. y) c.loop-family.yielded (λ i x at. refl)) ∙ all.0 in
    let same : c.loop-family.tables.items ≡ empty_tables c.args.families.items = c.loop-family.invariant.tables ∙ ap empty_tables each in
    rw same (AreShapedTables-empty c.args.families.items c.requires.different c.requires.few, sym (row_count-empty c.args.families.items), rw same at c.loop-family.invariant.roots)
