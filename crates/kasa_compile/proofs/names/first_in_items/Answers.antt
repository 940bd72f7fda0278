use Rattle.std.proofs.Common.{refl}
use Rattle.std.proofs.lemmas.List.{take_all}
use Rattle.kasa_compile.specs.Passes.{name_faults}
use Rattle.kasa_compile.proofs.PairLemmas.{none_more, first_here}
use Rattle.kasa_compile.proofs.FirstLemmas.{of_item, of_items}
use Rattle.kasa_compile.proofs.names.first_in_items.Goals as goal

pub loop-item-preserved : goal.loop-item-preserved
loop-item-preserved c = none_more (of_item (name_faults c.args.pass c.args.text.now c.args.sig.now)) c.args.items.now c.loop-item.item-index c.item-item.result c.item-item.result c.loop-item.invariant c.loop-item-test.true c.item-item.is c.in_default.ensures

pub returns-in-Some : goal.returns-in-Some
returns-in-Some c = rw (of_items (name_faults c.args.pass c.args.text.now c.args.sig.now) c.args.items.now) at (first_here (of_item (name_faults c.args.pass c.args.text.now c.args.sig.now)) c.args.items.now c.loop-item.item-index c.item-item.result c.item-item.result c.in-Some.at c.loop-item.invariant c.loop-item-test.true c.item-item.is c.in-Some.ensures)

pub returns : goal.returns
returns c =
    let none = rw (take_all c.loop-item.item-index c.args.items.now c.loop-item-test.false, of_items (name_faults c.args.pass c.args.text.now c.args.sig.now) c.args.items.now) at c.loop-item.invariant in
    rw none refl
