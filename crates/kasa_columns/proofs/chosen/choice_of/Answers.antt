use Rattle.std.proofs.lemmas.Result.{IfOk-weaker}
use Rattle.kasa_families.specs.Family.{shape_of}
use Rattle.kasa_families.proofs.ColumnLemmas.{to_nth}
use Rattle.kasa_columns.proofs.WalkLemmas.{column_agent, column_has_agent}
use Rattle.kasa_columns.proofs.chosen.choice_of.Goals as goal

pub choice-requires : goal.choice-requires
choice-requires g c =
    let has = rw (← c.search.view_is, ← c.column.view_is) at c.requires in
    rw (← c.search.view_is) (column_agent _ c.search.invariant _ has c.node_type.result c.node_type.ensures c.in-Some.agent c.in-Some.is).1

pub unreachable-requires : goal.unreachable-requires
unreachable-requires g c =
    let has = rw (← c.search.view_is, ← c.column.view_is) at c.requires in
    column_has_agent _ c.search.invariant _ has c.node_type.result c.node_type.ensures c.in-None.is

pub returns : goal.returns
returns g c =
    let has = rw (← c.search.view_is, ← c.column.view_is) at c.requires in
    let typed = (column_agent _ c.search.invariant _ has c.node_type.result c.node_type.ensures c.in-Some.agent c.in-Some.is).0 in
    rw (← c.search.view_is, ← c.column.view_is)
    (IfOk-weaker c.choice.result _ _ (λ states is. to_nth (shape_of c.search.inside.family.now).types c.column.inside.0.0.0 _ c.in-Some.agent typed is) (rw (← c.search.view_is) at c.choice.ensures))
