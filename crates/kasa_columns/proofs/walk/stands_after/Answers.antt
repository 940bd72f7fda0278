use Rattle.std.proofs.Common.{◌≤◌, ◌∙◌, sym, ap, arith, length}
use Rattle.std.proofs.lemmas.Slice.Zip.{AllZip-long}
use Rattle.kasa_families.specs.Family.{shape_of}
use Rattle.kasa_families.specs.Pattern.{row_pattern}
use Rattle.kasa_pre.specs.Before.{FitsStand}
use Rattle.kasa_columns.proofs.StandLemmas.{StandsExist-fit}
use Rattle.kasa_columns.proofs.WalkLemmas.{IsFamily-asked, length-asked, few_nodes_of, few_outside, answer_decides}
use Rattle.kasa_columns.proofs.walk.stands_after.Goals as goal

pub pattern-requires-clause-family : goal.pattern-requires-clause-family
pattern-requires-clause-family g c = IsFamily-asked _ c.search.invariant

pub pre-requires-clause-count : goal.pre-requires-clause-count
pre-requires-clause-count g c =
    let fit = rw (← c.search.view_is) at c.requires.fit in
    let valid = rw (← c.search.view_is) at c.requires.valid in
    sym (ap length c.in_ok-v.ensures.pattern ∙ length-asked _ c.search.invariant c.args.row.now valid ∙ AllZip-long (FitsStand c.search.inside.rule.now) c.args.stands.now (shape_of c.search.inside.family.now).types fit)

pub pre-requires-clause-exist : goal.pre-requires-clause-exist
pre-requires-clause-exist g c = StandsExist-fit c.search.inside.rule.now c.args.stands.now (shape_of c.search.inside.family.now).types (rw (← c.search.view_is) at c.requires.fit)

pub pre-requires-clause-few : goal.pre-requires-clause-few
pre-requires-clause-few g c =
    let valid = rw (← c.search.view_is) at c.requires.valid in
    let count = ap length c.in_ok-v.ensures.pattern ∙ length-asked _ c.search.invariant c.args.row.now valid in
    let nodes = few_nodes_of c.search.inside.family.now in
    let outside = few_outside c.in_ok-v.v c.args.stands.now in
    let left : length c.search.inside.rule.now.left ≤ 12 = c.search.invariant.few in
    omega arith

pub returns : goal.returns
returns g c =
    rw (← c.search.view_is)
    (answer_decides c.search.inside.sig.now (g.R.Rows.tables c.search.inside.rows.now) c.search.inside.rule.now (row_pattern c.search.inside.sig.now c.search.inside.family.now c.args.row.now) c.args.stands.now c.args.freed.now c.in_ok-pre.field-0 c.in-Some.g c.in-Some.is c.allowed.result c.allowed.ensures.allowed
    (rw c.in_ok-v.ensures.pattern at (c.in_ok-pre.ensures.allowed (g.R.Rows.tables c.search.inside.rows.now))))
