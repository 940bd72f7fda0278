use Rattle.std.proofs.Common.{◌≡◌, ◌∙◌, IfOk, subst}
use Rattle.std.specs.Prelude.{slice_get}
use Rattle.std.proofs.lemmas.List.{take_all}
use Rattle.kasa_compile.specs.Labels.{labels_on, odd_labels}
use Rattle.kasa_compile.proofs.label_counts.first_odd_of_items.Goals as goal

pub returns : goal.returns
unfolding labels_on
returns c =
    let all = rw (take_all c.loop-item.item-index c.args.items.now c.loop-item-test.false) at c.loop-item.invariant in
    subst (λ labels. IfOk c.first_odd.result (λ first. first ≡ slice_get (odd_labels labels) 0)) (c.as_slice.ensures.value ∙ all) c.first_odd.ensures
