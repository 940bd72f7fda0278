use Rattle.std.proofs.Common.{◌≡◌, refl, arith}
use Rattle.std.specs.Prelude.{true, false, Some, slice_get}
use Rattle.std.proofs.lemmas.Option.{slice_get_read}
use Rattle.kasa_pre.specs.Asked.{SourcesBefore}
use Rattle.kasa_pre.proofs.NarrowLemmas.{IsNarrowed-next, HasNone-next}
use Rattle.kasa_pre.proofs.AskedLoops.{SourceBelow, sources-all, source-one}
use Rattle.kasa_pre.proofs.narrow.narrow_sources.Goals as goal

pub returns-then-not-narrow_source : goal.returns-then-not-narrow_source
returns-then-not-narrow_source c =
    let at : slice_get c.args.asked.now.freed.now c.loop-f.f-index ≡ Some c.f-item.result = slice_get_read c.args.asked.now.freed.now _ c.loop-f.f-index c.f-item.result refl c.loop-f-test.true c.f-item.is in
    HasNone-next c.args.asked.now.sig.now c.args.g.now (SourceBelow c.args.asked.now.rule.now c.args.asked.now.stands.now c.args.asked.now.freed.now) (SourcesBefore c.args.asked.now.rule.now c.args.asked.now.stands.now c.args.asked.now.freed.now) c.loop-f.f-index c.loop-f.g c.loop-f.invariant
    (source-one c.args.asked.now.sig.now c.args.asked.now.rule.now c.args.asked.now.stands.now c.args.asked.now.freed.now c.loop-f.g c.loop-f.f-index c.f-item.result false c.narrow_source.new.g at (rw c.if-not-narrow_source.true at c.narrow_source.ensures))
    (λ h implied all k f is. all f (k, is))

pub loop-f-preserved : goal.loop-f-preserved
loop-f-preserved c =
    let at : slice_get c.args.asked.now.freed.now c.loop-f.f-index ≡ Some c.f-item.result = slice_get_read c.args.asked.now.freed.now _ c.loop-f.f-index c.f-item.result refl c.loop-f-test.true c.f-item.is in
    IsNarrowed-next c.args.asked.now.sig.now c.args.g.now (SourceBelow c.args.asked.now.rule.now c.args.asked.now.stands.now c.args.asked.now.freed.now) c.loop-f.f-index c.loop-f.g c.narrow_source.new.g c.loop-f.invariant
    (source-one c.args.asked.now.sig.now c.args.asked.now.rule.now c.args.asked.now.stands.now c.args.asked.now.freed.now c.loop-f.g c.loop-f.f-index c.f-item.result true c.narrow_source.new.g at (rw c.if-not-narrow_source.false at c.narrow_source.ensures))

pub returns : goal.returns
returns c = sources-all c.args.asked.now.sig.now c.args.asked.now.rule.now c.args.asked.now.stands.now c.args.asked.now.freed.now c.args.g.now c.loop-f.f-index c.loop-f.g (omega arith) c.loop-f.invariant
