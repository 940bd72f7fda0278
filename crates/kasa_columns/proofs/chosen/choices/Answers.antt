use Rattle.std.proofs.Common.{ap, take}
use Rattle.indexmap.proofs.SetLemmas.{AllZip-push}
use Rattle.kasa_columns.specs.Ask.{Ask}
use Rattle.kasa_columns.specs.Chosen.{IsColumnChoice}
use Rattle.kasa_columns.proofs.Pushing.{take_one_more}
use Rattle.kasa_columns.proofs.chosen.choices.Goals as goal

pub loop-column-preserved : goal.loop-column-preserved
loop-column-preserved g c =
    let columns = ap (λ (a : Ask). a.columns) c.search.view_is in
    let within = rw columns at c.loop-column-test.true in
    let is = rw columns at c.column-item.is in
    rw (c.in_ok-push.ensures.items, take_one_more c.args.search.now.columns c.loop-column.column-index c.column-item.result within is)
    (AllZip-push (IsColumnChoice c.args.search.now) (take c.loop-column.column-index c.args.search.now.columns) c.loop-column.found.items c.column-item.result c.in_ok-choice_of.field-0 c.loop-column.invariant c.in_ok-choice_of.ensures)
