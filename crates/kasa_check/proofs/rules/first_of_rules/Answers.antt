use Rattle.std.proofs.Common.{◌<◌, ◌+◌, length, ap, refl, ◌∙◌, arith}
use Rattle.std.proofs.lemmas.Option.{slice_get_read}
use Rattle.kasa_rules.specs.declared.model.Model.{Model}
use Rattle.kasa_families.specs.declared.rows.Origin.TheVariants.{Rule}
use Rattle.kasa_check.proofs.FirstLemmas.{origin_found, yield_there}
use Rattle.kasa_check.proofs.rules.first_of_rules.Goals as goal

pub returns-then-is_some-clause-first : goal.returns-then-is_some-clause-first
returns-then-is_some-clause-first g c =
    origin_found c.args.model.now (g.R.Rows.tables c.args.rows.now) (λ n. Rule n) (λ i j less. less) c.loop-k.k c.in_ok-found.found (let is = c.if-is_some.true in cc) c.in_ok-found.ensures c.loop-k.invariant

pub returns-clause-first : goal.returns-clause-first
returns-clause-first g c m from lacked =
    let items = c.as_slice-rules.ensures ∙ ap (λ (x : Model). x.rules) c.model.view_is in
    let there = yield_there c.args.model.now (g.R.Rows.tables c.args.rows.now) m from.0 from.1 lacked in
    let count = ap length items in
    let all : from.0 < c.loop-k.k + 1 = let most = there.1 in let past = c.loop-k-test.false in omega arith in
    c.loop-k.invariant m from.0 from.1 all lacked

pub first_of_rule-requires-clause-over : goal.first_of_rule-requires-clause-over
first_of_rule-requires-clause-over g c =
    let items = c.as_slice-rules.ensures ∙ ap (λ (x : Model). x.rules) c.model.view_is in
    let at = rw items at (slice_get_read c.as_slice-rules.result.now _ c.loop-k.k c.index-rules-k.result refl c.loop-k-test.true c.index-rules-k.is) in
    let is = rw c.model.view_is at c.model.invariant.0 in
    is.rules c.loop-k.k c.index-rules-k.result at
