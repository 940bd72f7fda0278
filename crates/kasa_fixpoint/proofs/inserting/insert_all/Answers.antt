use Rattle.std.proofs.Common.{◌∙◌, [], ◌∷◌, refl, rules}
use Rattle.std.proofs.lemmas.Iterator.Adapters.{YieldsList-from_vec}
use Rattle.kasa_graph.proofs.ListLemmas.{Has-right}
use Rattle.kasa_fixpoint.proofs.GrowLemmas.{yielded-among, TakesIn-then, LacksRoom-then, HaveMoreRows-then}
use Rattle.kasa_fixpoint.proofs.inserting.insert_all.Goals as goal

pub insert-requires-clause-shape : goal.insert-requires-clause-shape
insert-requires-clause-shape c =
    let start = c.into_iter-row-iterator.ensures.into_iter_gives in
    let among = yielded-among (YieldsList-from_vec c.args.rows.items start.0 (start.1 ∙ c.args.rows.ok.0)) c.loop-row.yielded c.loop-row.row-iterator c.loop-row.yielded_by c.next.result c.next.new.self c.in-Some.row c.in-Some.is c.next.ensures.steps in
    let shape = c.requires.shape in
    (shape.0, rw c.loop-row.invariant.takes.families shape.1, shape.2 c.in-Some.row (among c.in-Some.row (Has-right c.loop-row.yielded (c.in-Some.row ∷ []) c.in-Some.row (0, refl))))

pub returns-in_err-grew-clause-too_many : goal.returns-in_err-grew-clause-too_many
returns-in_err-grew-clause-too_many c e =
    let start = c.into_iter-row-iterator.ensures.into_iter_gives in
    let among = yielded-among (YieldsList-from_vec c.args.rows.items start.0 (start.1 ∙ c.args.rows.ok.0)) c.loop-row.yielded c.loop-row.row-iterator c.loop-row.yielded_by c.next.result c.next.new.self c.in-Some.row c.in-Some.is c.next.ensures.steps in
    LacksRoom-then c.args.f c.loop-row.yielded c.args.rows.items c.in-Some.row c.args.tables.now c.loop-row.tables c.loop-row.invariant.takes among (c.in_err-grew.ensures.too_many (search rules))

pub loop-row-preserved : goal.loop-row-preserved
loop-row-preserved c = record {
  takes = TakesIn-then c.args.f c.loop-row.yielded c.in-Some.row _ _ _ c.loop-row.invariant.takes c.in_ok-grew.ensures.takes;
  grown = HaveMoreRows-then c.args.f _ _ _ c.loop-row.grew c.in_ok-grew.field-0 c.loop-row.invariant.grown c.in_ok-grew.ensures.grown;
}
