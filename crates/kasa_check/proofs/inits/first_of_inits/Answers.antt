use Rattle.std.proofs.Common.{◌<◌, ◌+◌, length, ap, ◌∙◌, arith}
use Rattle.kasa_rules.specs.declared.model.Model.{Model}
use Rattle.kasa_families.specs.declared.rows.Origin.TheVariants.{Init}
use Rattle.kasa_check.proofs.FirstLemmas.{origin_found, init_there}
use Rattle.kasa_check.proofs.inits.first_of_inits.Goals as goal

pub returns-then-is_some : goal.returns-then-is_some
returns-then-is_some g c = record {
  first = origin_found c.args.model.now (g.R.Rows.tables c.args.rows.now) (λ n. Init n) (λ i j less. less) c.loop-k.k c.in_ok-found.found (let is = c.if-is_some.true in cc) c.in_ok-found.ensures c.loop-k.invariant;
}

pub returns : goal.returns
returns g c = record {
  first = λ m from lacked.
      let items = c.as_slice-inits.ensures ∙ ap (λ (x : Model). x.inits) c.model.view_is in
      let there = init_there c.args.model.now (g.R.Rows.tables c.args.rows.now) m from.0 from.1 lacked in
      let count = ap length items in
      let all : from.0 < c.loop-k.k + 1 = let most = there.1 in let past = c.loop-k-test.false in omega arith in
      c.loop-k.invariant m from.0 from.1 all lacked;
}
