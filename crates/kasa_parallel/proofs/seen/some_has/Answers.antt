use Rattle.std.proofs.Common.{refl}
use Rattle.std.proofs.lemmas.Option.{slice_get_read}
use Rattle.kasa_families.specs.Shape.{Nth}
use Rattle.kasa_families.proofs.ColumnLemmas.{nth_some}
use Rattle.kasa_parallel.specs.Parallel.{HasOneOrNot}
use Rattle.kasa_parallel.proofs.StandLists.{none_more, none_at_all}
use Rattle.kasa_parallel.proofs.seen.some_has.Goals as goal

pub first_cell-requires : goal.first_cell-requires
first_cell-requires c =
    let here = slice_get_read c.args.found.now _ c.loop-cells.cells-index c.cells-item.result refl c.loop-cells-test.true c.cells-item.is in
    c.requires.some c.cells-item.result (c.loop-cells.cells-index, here)

pub returns-then-has_one_or_not : goal.returns-then-has_one_or_not
returns-then-has_one_or_not c =
    let here = slice_get_read c.args.found.now _ c.loop-cells.cells-index c.cells-item.result refl c.loop-cells-test.true c.cells-item.is in
    let told = nth_some c.cells-item.result 0 (HasOneOrNot c.args.init.now c.args.x c.args.u c.args.one) c.first_cell.result c.has_one_or_not.result c.first_cell.ensures c.has_one_or_not.ensures in
    (λ _. (c.cells-item.result, (c.loop-cells.cells-index, here), told.0 c.if-has_one_or_not.true), λ _. refl)

pub loop-cells-preserved : goal.loop-cells-preserved
loop-cells-preserved c =
    let told = nth_some c.cells-item.result 0 (HasOneOrNot c.args.init.now c.args.x c.args.u c.args.one) c.first_cell.result c.has_one_or_not.result c.first_cell.ensures c.has_one_or_not.ensures in
    none_more (λ cells. Nth cells 0 (HasOneOrNot c.args.init.now c.args.x c.args.u c.args.one)) c.args.found.now c.loop-cells.cells-index c.cells-item.result c.loop-cells-test.true c.cells-item.is c.loop-cells.invariant (λ h. let yes = told.1 h in let out = c.if-has_one_or_not.false in absurd cc)

pub returns : goal.returns
returns c = (
  λ yes. absurd (let e = yes in cc),
  λ h. absurd (none_at_all (λ cells. Nth cells 0 (HasOneOrNot c.args.init.now c.args.x c.args.u c.args.one)) c.args.found.now c.loop-cells.cells-index c.loop-cells-test.false c.loop-cells.invariant h.0 h.1 h.2),
)
