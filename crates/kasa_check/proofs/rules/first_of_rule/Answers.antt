use Rattle.std.proofs.Common.{◌<◌, sym, ◌∙◌, arith}
use Rattle.std.proofs.lemmas.Bool.{false≢true}
use Rattle.kasa_families.specs.declared.rows.Origin.TheVariants.{Rule}
use Rattle.kasa_check.proofs.FirstLemmas.{family_found, family_none, family_there}
use Rattle.kasa_check.proofs.rules.first_of_rule.Goals as goal

pub returns-then-is_some : goal.returns-then-is_some
returns-then-is_some g c =
    family_found c.args.model.now (g.R.Rows.tables c.args.rows.now) (Rule c.args.number) c.loop-f.f c.in_ok-found.found (let is = c.if-is_some.true in cc) c.in_ok-found.ensures c.loop-f.invariant

pub loop-f-preserved : goal.loop-f-preserved
loop-f-preserved g c =
    family_none c.args.model.now (g.R.Rows.tables c.args.rows.now) (Rule c.args.number) c.loop-f.f c.in_ok-found.found (λ some. absurd (false≢true (sym c.if-is_some.false ∙ c.is_some.ensures ∙ some))) c.in_ok-found.ensures c.loop-f.invariant

pub returns : goal.returns
returns g c m from lacked =
    let there = family_there c.args.model.now (g.R.Rows.tables c.args.rows.now) m lacked in
    let all : m.family < c.loop-f.f = let count = c.families-f-end.ensures.count in omega arith in
    c.loop-f.invariant m from all lacked
