use Rattle.std.proofs.Common.{◌≡◌, ◌<◌, refl, ◌∙◌, length, arith, Some}
use Rattle.std.specs.Prelude.{slice_get}
use Rattle.std.proofs.lemmas.Option.{slice_get_read}
use Rattle.kasa_families.proofs.PlaceLists.{length-set}
use Rattle.kasa_columns.proofs.PlanLemmas.{AreAfterUpto-set, AreAfter-taken}
use Rattle.kasa_columns.proofs.plan.kept.Goals as goal

pub loop-k-preserved : goal.loop-k-preserved
loop-k-preserved c =
    let low : c.loop-k.k < length c.args.shown.now = c.loop-k-test.true in
    let effect : slice_get c.args.effects.now c.loop-k.k ≡ Some c.index-effects-k.result = slice_get_read c.args.effects.now (length c.args.effects.now) c.loop-k.k c.index-effects-k.result refl (omega (arith, c.requires.count)) c.index-effects-k.is in
    let local : slice_get c.args.shown.now c.loop-k.k ≡ Some c.index-shown-k.result = slice_get_read c.args.shown.now (length c.args.shown.now) c.loop-k.k c.index-shown-k.result refl low c.index-shown-k.is in
    rw c.after.ensures
    (record {
      long = length-set c.loop-k.locals c.loop-k.k _ ∙ c.loop-k.invariant.long;
      after = AreAfterUpto-set c.args.effects.now c.args.shown.now c.loop-k.locals c.loop-k.k c.index-effects-k.result c.index-shown-k.result c.loop-k.invariant.after (omega (arith, c.requires.few, c.loop-k.invariant.long)) effect local;
    })

pub returns-clause-after : goal.returns-clause-after
returns-clause-after c = rw c.new.ensures (AreAfter-taken c.args.effects.now c.args.shown.now c.loop-k.locals c.loop-k.k c.loop-k-test.false c.loop-k.invariant.after)
