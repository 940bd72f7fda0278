use Rattle.std.proofs.Common.{refl, sym, ap}
use Rattle.std.proofs.lemmas.Option.{slice_get_read}
use Rattle.std.proofs.lemmas.Slice.Zip.{AllZip-long}
use Rattle.kasa_families.specs.Family.{shape_of}
use Rattle.kasa_columns.specs.Ask.{Ask, IsAsk}
use Rattle.kasa_columns.specs.Chosen.{IsColumnChoice}
use Rattle.kasa_columns.specs.Settled.{IsAgreeingSettled}
use Rattle.kasa_columns.proofs.CollectLemmas.{GoesOn-refl, GoesOn-trans}
use Rattle.kasa_columns.proofs.StandLemmas.{StandsExist-fit}
use Rattle.kasa_columns.proofs.WalkLemmas.{node_stands, length-among, settled_none, settled_next, settled_all, IsAgreeingSettled-on}
use Rattle.kasa_columns.proofs.walk.try_chosen.Goals as goal

pub chosen-requires-clause-count : goal.chosen-requires-clause-count
chosen-requires-clause-count g c =
    let columns = ap (λ (a : Ask). a.columns) c.search.view_is in
    rw columns (sym (AllZip-long (IsColumnChoice c.args.search.now) c.args.search.now.columns c.args.choices.now c.requires.choices))

pub chosen-requires-clause-nodes : goal.chosen-requires-clause-nodes
chosen-requires-clause-nodes g c = node_stands _ c.search.invariant c.args.stands.now (rw (← c.search.view_is) at c.requires.fit)

pub all_asked-requires-clause-exist : goal.all_asked-requires-clause-exist
all_asked-requires-clause-exist g c = StandsExist-fit c.search.inside.rule.now c.args.stands.now (shape_of c.search.inside.family.now).types (rw (← c.search.view_is) at c.requires.fit)

pub all_asked-requires-clause-nodes : goal.all_asked-requires-clause-nodes
all_asked-requires-clause-nodes g c = node_stands _ c.search.invariant c.args.stands.now (rw (← c.search.view_is) at c.requires.fit)

pub try_choice-requires-clause-asked : goal.try_choice-requires-clause-asked
try_choice-requires-clause-asked g c = rw c.as_slice-asks.ensures.value (rw (← c.search.view_is) c.in_ok-asked.ensures)

pub loop-shown-init : goal.loop-shown-init
loop-shown-init g c = (GoesOn-refl c.args.search.now _, settled_none (IsAgreeingSettled c.args.search.now c.args.stands.now) _ _)

pub try_choice-requires-clause-count : goal.try_choice-requires-clause-count
try_choice-requires-clause-count g c =
    let ok : IsAsk c.args.search.now = rw (← c.search.view_is) c.search.invariant in
    let here = rw c.deref-shown-items.ensures.value at (slice_get_read c.deref-shown-items.result.now _ c.loop-shown.shown-index c.shown-item.result refl c.loop-shown-test.true c.shown-item.is) in
    let among = (c.in_ok-all.ensures c.shown-item.result).0 (c.loop-shown.shown-index, here) in
    rw c.as_slice.ensures (length-among c.args.search.now ok c.args.stands.now c.args.choices.now c.shown-item.result (rw (ap (λ (a : Ask). a.columns) c.search.view_is) at among))

pub loop-shown-preserved : goal.loop-shown-preserved
loop-shown-preserved g c =
    let here = slice_get_read c.deref-shown-items.result.now _ c.loop-shown.shown-index c.shown-item.result refl c.loop-shown-test.true c.shown-item.is in (
      GoesOn-trans c.args.search.now _ _ _ c.loop-shown.invariant.0 c.in_ok-try_choice.ensures.on,
      settled_next c.args.search.now (IsAgreeingSettled c.args.search.now c.args.stands.now) (λ old new on. IsAgreeingSettled-on c.args.search.now old new on c.args.stands.now) c.deref-shown-items.result.now c.loop-shown.shown-index _ _ c.shown-item.result c.loop-shown.invariant.1 c.in_ok-try_choice.ensures.on here (rw c.as_slice.ensures at c.in_ok-try_choice.ensures.settled),
    )

pub returns-clause-settled : goal.returns-clause-settled
returns-clause-settled g c =
    let all = settled_all (IsAgreeingSettled c.args.search.now c.args.stands.now) c.deref-shown-items.result.now c.loop-shown.shown-index c.loop-shown.found.keys c.loop-shown-test.false c.loop-shown.invariant.1 in
    λ shown among. all shown (rw c.deref-shown-items.ensures.value ((c.in_ok-all.ensures shown).1 (rw (ap (λ (a : Ask). a.columns) c.search.view_is) among)))
