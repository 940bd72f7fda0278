use Rattle.std.proofs.Common.{◌≤◌, [], length, ap, arith}
use Rattle.kasa_rules.specs.Reached.{IsModel}
use Rattle.kasa_influence.specs.inner.Search.{IsGainFrom, IsLossFrom}
use Rattle.kasa_influence.proofs.AddsLemmas.{Adds-start, Adds-more}
use Rattle.kasa_influence.proofs.ArrowLemmas.{all_gains, all_losses}
use Rattle.kasa_influence.proofs.InfluenceLemmas.{OthersMakeNone-all, OthersStopNone-all}
use Rattle.kasa_influence.proofs.search.arrows.Goals as goal

pub arrows_from-requires-clause-lones : goal.arrows_from-requires-clause-lones
arrows_from-requires-clause-lones g c = rw c.as_slice.ensures.value c.in_ok-lones.ensures

pub loop-from-init : goal.loop-from-init
loop-from-init g c = record {
  gains = rw c.new.ensures.items (Adds-start (IsGainFrom c.args.model.now (g.R.Rows.tables c.args.rows.now)) []);
  losses = rw c.new-2.ensures.items (Adds-start (IsLossFrom c.args.model.now (g.R.Rows.tables c.args.rows.now)) []);
}

pub loop-from-preserved : goal.loop-from-preserved
loop-from-preserved g c = record {
  gains = Adds-more (IsGainFrom c.args.model.now (g.R.Rows.tables c.args.rows.now)) c.loop-from.from [] c.loop-from.found.positive.items c.arrows_from.new.found.positive.items c.loop-from.invariant.gains c.in_ok-arrows_from.ensures.positive;
  losses = Adds-more (IsLossFrom c.args.model.now (g.R.Rows.tables c.args.rows.now)) c.loop-from.from [] c.loop-from.found.negative.items c.arrows_from.new.found.negative.items c.loop-from.invariant.losses c.in_ok-arrows_from.ensures.negative;
}

pub returns-clause-positive : goal.returns-clause-positive
returns-clause-positive g c = λ arrow.
    let past : length c.args.model.now.rules ≤ c.loop-from.from = rw (← c.model.view_is) (let count = ap length c.as_slice-from-end.ensures in let past = c.loop-from-test.false in omega arith) in
    let all = all_gains c.args.model.now (g.R.Rows.tables c.args.rows.now) c.loop-from.from c.loop-from.found.positive.items past c.loop-from.invariant.gains arrow in
    (λ has. all.0 ((c.in_order.ensures.same arrow).0 has), λ gain. (c.in_order.ensures.same arrow).1 (all.1 gain))

pub returns-clause-negative : goal.returns-clause-negative
returns-clause-negative g c = λ arrow.
    let past : length c.args.model.now.rules ≤ c.loop-from.from = rw (← c.model.view_is) (let count = ap length c.as_slice-from-end.ensures in let past = c.loop-from-test.false in omega arith) in
    let all = all_losses c.args.model.now (g.R.Rows.tables c.args.rows.now) c.loop-from.from c.loop-from.found.negative.items past c.loop-from.invariant.losses arrow in
    (λ has. all.0 ((c.in_order-2.ensures.same arrow).0 has), λ loss. (c.in_order-2.ensures.same arrow).1 (all.1 loss))

pub returns-clause-makes_none : goal.returns-clause-makes_none
returns-clause-makes_none g c =
    let past : length c.args.model.now.rules ≤ c.loop-from.from = rw (← c.model.view_is) (let count = ap length c.as_slice-from-end.ensures in let past = c.loop-from-test.false in omega arith) in
    let valid : IsModel c.args.model.now = rw (← c.model.view_is) c.model.invariant.0 in
    OthersMakeNone-all c.args.model.now (g.R.Rows.tables c.args.rows.now) c.requires.tables valid c.in_order.result
    (λ arrow gain. (c.in_order.ensures.same arrow).1 ((all_gains c.args.model.now (g.R.Rows.tables c.args.rows.now) c.loop-from.from c.loop-from.found.positive.items past c.loop-from.invariant.gains arrow).1 gain))

pub returns-clause-stops_none : goal.returns-clause-stops_none
returns-clause-stops_none g c =
    let past : length c.args.model.now.rules ≤ c.loop-from.from = rw (← c.model.view_is) (let count = ap length c.as_slice-from-end.ensures in let past = c.loop-from-test.false in omega arith) in
    let valid : IsModel c.args.model.now = rw (← c.model.view_is) c.model.invariant.0 in
    OthersStopNone-all c.args.model.now (g.R.Rows.tables c.args.rows.now) c.requires.tables valid c.in_order-2.result
    (λ arrow loss. (c.in_order-2.ensures.same arrow).1 ((all_losses c.args.model.now (g.R.Rows.tables c.args.rows.now) c.loop-from.from c.loop-from.found.negative.items past c.loop-from.invariant.losses arrow).1 loss))
