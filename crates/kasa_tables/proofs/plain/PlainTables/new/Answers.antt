use Rattle.std.proofs.Common.{◌≡◌, sym, refl, ap, ◌∙◌}
use Rattle.std.proofs.lemmas.Iterator.Adapters.{YieldsList-from_vec}
use Rattle.std.proofs.lemmas.Iterator.Consumers.{YieldsList-end}
use Rattle.kasa_graph.proofs.ListLemmas.{map-same}
use Rattle.kasa_tables.specs.Insert.{empty_tables}
use Rattle.kasa_tables.proofs.PlainLemmas.{AreShapedTables-empty, row_count-empty}
use Rattle.kasa_tables.proofs.plain.PlainTables.new.Goals as goal

pub invariant_of-result : goal.invariant_of-result
invariant_of-result c =
    let start = c.into_iter-family-iterator.ensures.into_iter_gives in
    let all = YieldsList-end (YieldsList-from_vec c.args.families.items start.0 (start.1 ∙ c.args.families.ok.0)) c.loop-family.yielded c.loop-family.family-iterator c.loop-family.yielded_by c.next.result c.next.new.self c.in-None.is c.next.ensures.steps in
    let each : c.loop-family.yielded ≡ c.args.families.items = sym (map-same (λ y. y) c.loop-family.yielded (λ i x at. refl)) ∙ all.0 in
    rw (c.loop-family.invariant ∙ ap empty_tables each) (AreShapedTables-empty c.args.families.items c.requires.different c.requires.few, sym (row_count-empty c.args.families.items))
