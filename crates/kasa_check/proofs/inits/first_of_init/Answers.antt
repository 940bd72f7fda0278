use Rattle.std.proofs.Common.{◌<◌, arith}
use Rattle.kasa_families.specs.declared.rows.Origin.TheVariants.{Init}
use Rattle.kasa_check.proofs.FirstLemmas.{family_found, family_there}
use Rattle.kasa_check.proofs.inits.first_of_init.Goals as goal

pub returns-then-is_some : goal.returns-then-is_some
returns-then-is_some g c =
    family_found c.args.model.now (g.R.Rows.tables c.args.rows.now) (Init c.args.number) c.loop-f.f c.in_ok-found.found (let is = c.if-is_some.true in cc) c.in_ok-found.ensures c.loop-f.invariant

pub returns : goal.returns
returns g c m from lacked =
    let there = family_there c.args.model.now (g.R.Rows.tables c.args.rows.now) m lacked in
    let all : m.family < c.loop-f.f = let count = c.families-f-end.ensures.count in omega arith in
    c.loop-f.invariant m from all lacked
