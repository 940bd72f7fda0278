use Rattle.std.proofs.Common.{inl, inr, List, refl}
use Rattle.std.specs.List.{AllZip}
use Rattle.std.proofs.lemmas.Option.{slice_get_read}
use Rattle.kasa_graph.specs.Lists.{Has}
use Rattle.kasa_families.specs.declared.row.Row.{Row}
use Rattle.kasa_families.specs.Family.{shape_of}
use Rattle.kasa_pre.specs.declared.Stand.{Stand}
use Rattle.kasa_pre.specs.Before.{FitsStand}
use Rattle.kasa_columns.specs.Ask.{IsAsk}
use Rattle.kasa_columns.specs.Chosen.{MayBe}
use Rattle.kasa_columns.specs.Settled.{AreStandsSettled, FollowsBonds}
use Rattle.kasa_columns.proofs.CollectLemmas.{AreFound-none}
use Rattle.kasa_columns.proofs.WalkLemmas.{settled_none, settled_next, settled_all, AreStandsSettled-on, all_settled}
use Rattle.kasa_columns.proofs.walk.find.Goals as goal

pub choices_for-requires : goal.choices_for-requires
choices_for-requires g c = record { fit = rw c.as_slice.ensures.value (rw (← c.search.view_is) c.in_ok-all.ensures.fit) }

pub loop-stands-init : goal.loop-stands-init
loop-stands-init g c = (rw c.new-found.ensures.empty (AreFound-none c.args.search.now), settled_none (λ (found : List Row) (stands : List Stand). AreStandsSettled c.args.search.now (MayBe c.args.search.now c.in_ok-choices.choices.items stands) found stands) _ _)

pub try_stands-requires-clause-fit : goal.try_stands-requires-clause-fit
try_stands-requires-clause-fit g c =
    let here = rw c.deref-stands-items.ensures.value at (slice_get_read c.deref-stands-items.result.now _ c.loop-stands.stands-index c.stands-item.result refl c.loop-stands-test.true c.stands-item.is) in
    rw c.as_slice-in-loop-stands.ensures (rw (← c.search.view_is) (c.in_ok-all.ensures.fit c.stands-item.result (c.loop-stands.stands-index, here)))

pub try_stands-requires-clause-choices : goal.try_stands-requires-clause-choices
try_stands-requires-clause-choices g c =
    let here = rw c.deref-stands-items.ensures.value at (slice_get_read c.deref-stands-items.result.now _ c.loop-stands.stands-index c.stands-item.result refl c.loop-stands-test.true c.stands-item.is) in
    rw (c.as_slice-in-loop-stands.ensures, c.as_slice-in-loop-stands-2.ensures.value) (elim c.in_ok-choices.ensures [
      | inl are ↦ inl are
      | inr leave ↦ inr (leave c.stands-item.result (c.loop-stands.stands-index, rw c.as_slice.ensures.value here))
    ])

pub try_stands-requires-clause-links : goal.try_stands-requires-clause-links
try_stands-requires-clause-links g c = rw c.as_slice-in-loop-stands-3.ensures.value (rw (← c.search.view_is) c.in_ok-links.ensures)

pub loop-stands-preserved : goal.loop-stands-preserved
loop-stands-preserved g c =
    let here = slice_get_read c.deref-stands-items.result.now _ c.loop-stands.stands-index c.stands-item.result refl c.loop-stands-test.true c.stands-item.is in (
      c.in_ok-try_stands.ensures.on.found c.loop-stands.invariant.0,
      settled_next c.args.search.now (λ (found : List Row) (stands : List Stand). AreStandsSettled c.args.search.now (MayBe c.args.search.now c.in_ok-choices.choices.items stands) found stands) (λ old new on stands. AreStandsSettled-on c.args.search.now old new on stands (MayBe c.args.search.now c.in_ok-choices.choices.items stands)) c.deref-stands-items.result.now c.loop-stands.stands-index _ _ c.stands-item.result c.loop-stands.invariant.1 c.in_ok-try_stands.ensures.on here (rw (c.as_slice-in-loop-stands.ensures, c.as_slice-in-loop-stands-2.ensures.value) at c.in_ok-try_stands.ensures.settled),
    )

pub returns-clause-found : goal.returns-clause-found
returns-clause-found g c = c.loop-stands.invariant.0

pub returns-clause-settled : goal.returns-clause-settled
returns-clause-settled g c =
    let ok : IsAsk c.args.search.now = rw (← c.search.view_is) c.search.invariant in
    let all = settled_all (λ (found : List Row) (stands : List Stand). AreStandsSettled c.args.search.now (MayBe c.args.search.now c.in_ok-choices.choices.items stands) found stands) c.deref-stands-items.result.now c.loop-stands.stands-index c.loop-stands.found.keys c.loop-stands-test.false c.loop-stands.invariant.1 in
    let complete : (stands : List Stand) → AllZip (FitsStand c.args.search.now.rule) stands (shape_of c.args.search.now.family).types → FollowsBonds c.args.search.now.rule (shape_of c.args.search.now.family).bonds stands → Has c.in_ok-all.all.items stands = rw (← c.search.view_is) c.in_ok-all.ensures.complete in
    all_settled c.args.search.now ok c.in_ok-all.all.items c.in_ok-choices.choices.items c.loop-stands.found.keys complete (rw c.as_slice.ensures.value at c.in_ok-choices.ensures) (rw c.deref-stands-items.ensures.value at all)
