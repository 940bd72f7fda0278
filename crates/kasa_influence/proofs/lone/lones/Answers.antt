use Rattle.std.proofs.Common.{◌≡◌, length, ap, arith, refl, []}
use Rattle.std.specs.Prelude.{Some, slice_get}
use Rattle.std.proofs.lemmas.Option.{slice_get_read}
use Rattle.kasa_influence.proofs.AddsLemmas.{Adds-more}
use Rattle.kasa_influence.proofs.LonesLemmas.{IsLoneFrom, lones-from, lones-all}
use Rattle.kasa_influence.proofs.lone.lones.Goals as goal

pub push_lones-requires : goal.push_lones-requires
push_lones-requires c =
    let at = slice_get_read c.as_slice-rules.result.now _ c.loop-k.k c.index-rules-k.result refl c.loop-k-test.true c.index-rules-k.is in
    (c.model.invariant.0.rules c.loop-k.k c.index-rules-k.result (rw c.as_slice-rules.ensures at at)).left

pub loop-k-preserved : goal.loop-k-preserved
loop-k-preserved c =
    let at = slice_get_read c.as_slice-rules.result.now _ c.loop-k.k c.index-rules-k.result refl c.loop-k-test.true c.index-rules-k.is in
    let there : slice_get c.args.model.now.rules c.loop-k.k ≡ Some c.index-rules-k.result = rw (← c.model.view_is) (rw c.as_slice-rules.ensures at at) in
    Adds-more (IsLoneFrom c.args.model.now) c.loop-k.k [] c.loop-k.found.items c.push_lones.new.found.items c.loop-k.invariant
    (lones-from c.args.model.now c.loop-k.k c.index-rules-k.result c.loop-k.found.items c.push_lones.new.found.items there c.in_ok-push_lones.ensures)

pub returns : goal.returns
returns c =
    lones-all c.args.model.now c.loop-k.k c.loop-k.found.items
    (rw (← c.model.view_is) (let count = ap length c.as_slice-rules.ensures in let past = c.loop-k-test.false in omega arith))
    c.loop-k.invariant
