use Rattle.std.proofs.Common.{refl}
use Rattle.std.proofs.lemmas.Option.{slice_get_read}
use Rattle.kasa_columns.proofs.Pushing.{pushed_next, pushed_all, from_all, adds_one, adds_none}
use Rattle.kasa_columns.proofs.StandLemmas.{StandExists-fits}
use Rattle.kasa_parallel.specs.Partners.{WritesPartner}
use Rattle.kasa_parallel.proofs.StandLists.{Takes, taken}
use Rattle.kasa_parallel.proofs.search.writing.Goals.{then-writes_partner+in_ok-push, else-writes_partner}
use Rattle.kasa_parallel.proofs.search.writing.Goals as goal

pub writes_partner-requires-clause-exists : goal.writes_partner-requires-clause-exists
writes_partner-requires-clause-exists g c =
    let here = slice_get_read c.args.all.now _ c.loop-stand.stand-index c.stand-item.result refl c.loop-stand-test.true c.stand-item.is in
    let fit = rw (← c.search.view_is) at c.requires in
    StandExists-fits c.search.inside.rule.now c.stand-item.result c.search.inside.a (fit c.stand-item.result (c.loop-stand.stand-index, here))

pub loop-stand-preserved : goal.loop-stand-preserved
loop-stand-preserved g c =
    elim c.if-writes_partner.branch [
      | then-writes_partner+in_ok-push w ↦
          rw (w.firsts-is, w.in_ok-push.ensures.items)
          (pushed_next (Takes (WritesPartner c.args.search.now.rule c.args.search.now.x c.args.search.now.u)) _ c.args.all.now c.loop-stand.stand-index c.loop-stand.firsts.items _ c.stand-item.result c.loop-stand-test.true c.stand-item.is c.loop-stand.invariant (adds_one (Takes (WritesPartner c.args.search.now.rule c.args.search.now.x c.args.search.now.u)) c.loop-stand.firsts.items c.stand-item.result c.stand-item.result (refl, rw (← c.search.view_is) (c.writes_partner.ensures.0 w.if-writes_partner.true)) (λ z q. q.0)))
      | else-writes_partner w ↦
          rw w.firsts-is
          (pushed_next (Takes (WritesPartner c.args.search.now.rule c.args.search.now.x c.args.search.now.u)) _ c.args.all.now c.loop-stand.stand-index c.loop-stand.firsts.items _ c.stand-item.result c.loop-stand-test.true c.stand-item.is c.loop-stand.invariant (adds_none (Takes (WritesPartner c.args.search.now.rule c.args.search.now.x c.args.search.now.u)) c.loop-stand.firsts.items c.stand-item.result (λ z q. let yes = c.writes_partner.ensures.1 (rw (q.0, ← c.search.view_is) at q.1) in let out = w.if-writes_partner.false in absurd cc)))
    ]

pub returns : goal.returns
returns g c =
    let all = from_all (Takes (WritesPartner c.args.search.now.rule c.args.search.now.x c.args.search.now.u)) c.args.all.now c.loop-stand.firsts.items (rw c.in_ok-firsts.ensures.items at (pushed_all (Takes (WritesPartner c.args.search.now.rule c.args.search.now.x c.args.search.now.u)) _ c.args.all.now c.loop-stand.stand-index c.loop-stand.firsts.items c.loop-stand-test.false c.loop-stand.invariant)) in
    taken (WritesPartner c.args.search.now.rule c.args.search.now.x c.args.search.now.u) c.args.all.now c.loop-stand.firsts.items all
