use Rattle.std.proofs.Common.{◌≤◌, [], length, arith}
use Rattle.kasa_columns.proofs.Pushing.{both_ways}
use Rattle.kasa_columns.proofs.WalkLemmas.{few_outside, answer_decides}
use Rattle.kasa_parallel.proofs.SearchLemmas.{YieldsAt-stands}
use Rattle.kasa_parallel.proofs.search.stood.Goals as goal

pub pre-requires-clause-exist : goal.pre-requires-clause-exist
pre-requires-clause-exist g c = rw (← c.search.view_is) at c.requires.exist

pub pre-requires-clause-few : goal.pre-requires-clause-few
pre-requires-clause-few g c =
    let outside = few_outside c.args.v.now c.args.stands.now in
    let nodes = c.requires.few in
    let left : length c.search.inside.rule.now.left ≤ 12 = c.search.invariant.few in
    omega arith

pub returns-in-Some : goal.returns-in-Some
returns-in-Some g c =
    rw (← c.search.view_is)
    (both_ways
    (answer_decides c.search.inside.sig.now (g.R.Rows.tables c.search.inside.rows.now) c.search.inside.rule.now c.args.v.now c.args.stands.now [] c.in_ok-pre.field-0 c.in-Some.g c.in-Some.is c.allowed.result c.allowed.ensures.allowed (c.in_ok-pre.ensures.allowed (g.R.Rows.tables c.search.inside.rows.now)))
    (YieldsAt-stands c.search.inside.sig.now (g.R.Rows.tables c.search.inside.rows.now) c.search.inside.rule.now c.args.v.now c.args.stands.now))
