use Rattle.std.proofs.Common.{[], refl, arith}
use Rattle.std.proofs.lemmas.Option.{slice_get_read}
use Rattle.kasa_influence.proofs.AddsLemmas.{Adds-start}
use Rattle.kasa_influence.proofs.SourceLemmas.{SourceOf, source-more, source-all}
use Rattle.kasa_influence.proofs.makes.all_sources.Goals as goal

pub loop-x-init : goal.loop-x-init
loop-x-init c = rw c.new-found.ensures.items (Adds-start (SourceOf c.args.open_sites.now c.args.site) [])

pub loop-x-preserved : goal.loop-x-preserved
loop-x-preserved c =
    rw c.in_ok-push.ensures.items
    (source-more c.args.open_sites.now c.args.site c.loop-x.x-index c.x-item.result c.loop-x.found.items (slice_get_read c.args.open_sites.now _ c.loop-x.x-index c.x-item.result refl c.loop-x-test.true c.x-item.is) c.loop-x.invariant)

pub returns : goal.returns
returns c = source-all c.args.open_sites.now c.args.site c.loop-x.x-index c.loop-x.found.items (let past = c.loop-x-test.false in omega arith) c.loop-x.invariant
