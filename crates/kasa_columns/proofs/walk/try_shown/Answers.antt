use Rattle.std.proofs.Common.{refl}
use Rattle.std.proofs.lemmas.Option.{slice_get_read}
use Rattle.kasa_families.specs.Family.{shape_of}
use Rattle.kasa_columns.specs.Settled.{IsOutcomeSettled}
use Rattle.kasa_columns.proofs.CollectLemmas.{GoesOn-refl, GoesOn-trans}
use Rattle.kasa_columns.proofs.StandLemmas.{StandsExist-fit}
use Rattle.kasa_columns.proofs.WalkLemmas.{few_columns, node_stands, settled_none, settled_next, settled_all, IsOutcomeSettled-on}
use Rattle.kasa_columns.proofs.walk.try_shown.Goals as goal

pub outcomes-requires-clause-exist : goal.outcomes-requires-clause-exist
outcomes-requires-clause-exist g c = StandsExist-fit c.search.inside.rule.now c.args.stands.now (shape_of c.search.inside.family.now).types (rw (← c.search.view_is) at c.requires.fit)

pub outcomes-requires-clause-nodes : goal.outcomes-requires-clause-nodes
outcomes-requires-clause-nodes g c = node_stands _ c.search.invariant c.args.stands.now (rw (← c.search.view_is) at c.requires.fit)

pub outcomes-requires-clause-few : goal.outcomes-requires-clause-few
outcomes-requires-clause-few g c = few_columns _ c.search.invariant

pub loop-out-init : goal.loop-out-init
loop-out-init g c = (GoesOn-refl c.args.search.now _, settled_none (IsOutcomeSettled c.args.search.now c.args.stands.now) _ _)

pub try_outcome-requires-clause-comes : goal.try_outcome-requires-clause-comes
try_outcome-requires-clause-comes g c =
    let here = slice_get_read c.deref-out-items.result.now _ c.loop-out.out-index c.out-item.result refl c.loop-out-test.true c.out-item.is in
    rw (← c.search.view_is) (c.args.shown.now, c.in_ok-outs.ensures.sound c.out-item.result (c.loop-out.out-index, rw c.deref-out-items.ensures.value at here))

pub loop-out-preserved : goal.loop-out-preserved
loop-out-preserved g c =
    let here = slice_get_read c.deref-out-items.result.now _ c.loop-out.out-index c.out-item.result refl c.loop-out-test.true c.out-item.is in (
      GoesOn-trans c.args.search.now _ _ _ c.loop-out.invariant.0 c.in_ok-try_outcome.ensures.on,
      settled_next c.args.search.now (IsOutcomeSettled c.args.search.now c.args.stands.now) (λ old new on. IsOutcomeSettled-on c.args.search.now old new on c.args.stands.now) c.deref-out-items.result.now c.loop-out.out-index _ _ c.out-item.result c.loop-out.invariant.1 c.in_ok-try_outcome.ensures.on here c.in_ok-try_outcome.ensures.settled,
    )

pub returns-clause-settled : goal.returns-clause-settled
returns-clause-settled g c =
    let all = settled_all (IsOutcomeSettled c.args.search.now c.args.stands.now) c.deref-out-items.result.now c.loop-out.out-index c.loop-out.found.keys c.loop-out-test.false c.loop-out.invariant.1 in
    let complete = rw (← c.deref-out-items.ensures.value) at c.in_ok-outs.ensures.complete in
    λ out comes. all out (complete out (rw (← c.search.view_is) at comes))
