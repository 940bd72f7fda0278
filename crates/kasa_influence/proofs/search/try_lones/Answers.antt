use Rattle.std.proofs.Common.{arith, refl}
use Rattle.std.proofs.lemmas.Option.{slice_get_read, slice_get_within}
use Rattle.kasa_influence.proofs.ArrowLemmas.{IsOne-lone, IsTarget-lone, gain-more, gain-all, loss-more, loss-all}
use Rattle.kasa_influence.proofs.search.try_lones.Goals as goal

pub left_of-left-requires : goal.left_of-left-requires
left_of-left-requires g c =
    let here = slice_get_read c.args.lones.now _ c.loop-lone.lone-index c.lone-item.result refl c.loop-lone-test.true c.lone-item.is in
    let lone = c.requires.lones c.lone-item.result (c.loop-lone.lone-index, here) in
    slice_get_within c.args.model.now.rules c.lone-item.result.rule lone.0 lone.1

pub try_gain-requires : goal.try_gain-requires
try_gain-requires g c =
    let here = slice_get_read c.args.lones.now _ c.loop-lone.lone-index c.lone-item.result refl c.loop-lone-test.true c.lone-item.is in
    let lone = c.requires.lones c.lone-item.result (c.loop-lone.lone-index, here) in
    rw c.requires.sig (IsOne-lone c.args.model.now c.requires.valid c.lone-item.result lone)

pub try_loss-requires : goal.try_loss-requires
try_loss-requires g c =
    let here = slice_get_read c.args.lones.now _ c.loop-lone.lone-index c.lone-item.result refl c.loop-lone-test.true c.lone-item.is in
    let lone = c.requires.lones c.lone-item.result (c.loop-lone.lone-index, here) in
    rw (c.requires.sig, c.left_of-left.ensures lone.0 lone.1) (IsTarget-lone c.args.model.now c.requires.valid c.lone-item.result lone lone.0 lone.1)

pub loop-lone-preserved : goal.loop-lone-preserved
loop-lone-preserved g c =
    let here = slice_get_read c.args.lones.now _ c.loop-lone.lone-index c.lone-item.result refl c.loop-lone-test.true c.lone-item.is in
    let lone = c.requires.lones c.lone-item.result (c.loop-lone.lone-index, here) in
    record {
      gains = gain-more c.args.ask.now c.args.from c.args.lones.now c.loop-lone.lone-index c.lone-item.result c.args.found.now.positive.items c.loop-lone.found.positive.items c.try_gain.new.found.items here c.loop-lone.invariant.gains c.in_ok-try_gain.ensures;
      losses = loss-more c.args.ask.now c.args.from c.args.lones.now c.loop-lone.lone-index c.args.model.now c.lone-item.result lone.0 c.args.found.now.negative.items c.loop-lone.found.negative.items c.try_loss.new.found.items here lone.1 c.loop-lone.invariant.losses (rw (c.left_of-left.ensures lone.0 lone.1) at c.in_ok-try_loss.ensures);
    }

pub returns-clause-positive : goal.returns-clause-positive
returns-clause-positive g c = gain-all c.args.ask.now c.args.from c.args.lones.now c.loop-lone.lone-index c.args.found.now.positive.items c.loop-lone.found.positive.items (let past = c.loop-lone-test.false in omega arith) c.loop-lone.invariant.gains

pub returns-clause-negative : goal.returns-clause-negative
returns-clause-negative g c = loss-all c.args.ask.now c.args.from c.args.lones.now c.loop-lone.lone-index c.args.model.now c.args.found.now.negative.items c.loop-lone.found.negative.items (let past = c.loop-lone-test.false in omega arith) c.loop-lone.invariant.losses
