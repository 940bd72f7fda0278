use Rattle.std.proofs.Common.{◌≡◌, ◌-◌, ◌<◌, length, refl, ap, arith}
use Rattle.std.specs.Prelude.{Some, slice_get}
use Rattle.std.proofs.lemmas.Option.{slice_get_read}
use Rattle.kasa_families.specs.declared.shape.NodeSite.{NodeSite}
use Rattle.kasa_columns.proofs.ChosenLemmas.{among_end, among_from}
use Rattle.kasa_columns.proofs.chosen.chosen.Goals as goal

pub loop-k-init : goal.loop-k-init
loop-k-init c = among_end c.args.stands.now c.args.columns.now c.args.choices.now c.push.new.self.items (rw (c.in_ok-push.ensures.items, c.new-all.ensures.items, c.new.ensures.items) refl) c.requires.count

pub loop-k-preserved : goal.loop-k-preserved
loop-k-preserved c =
    let within : c.loop-k.k - 1 < length c.args.columns.now = omega arith in
    let column : slice_get c.args.columns.now (c.loop-k.k - 1) ≡ Some c.index-columns-k.result = slice_get_read c.args.columns.now (length c.args.columns.now) (c.loop-k.k - 1) c.index-columns-k.result refl within c.index-columns-k.is in
    let choice : slice_get c.args.choices.now (c.loop-k.k - 1) ≡ Some c.index-choices-k.result = slice_get_read c.args.choices.now (length c.args.choices.now) (c.loop-k.k - 1) c.index-choices-k.result refl (omega (arith, c.requires.count)) c.index-choices-k.is in
    let stood : slice_get c.args.stands.now c.index-columns-k.result.node ≡ Some c.index-stands-column.result = slice_get_read c.args.stands.now (length c.args.stands.now) c.index-columns-k.result.node c.index-stands-column.result refl (c.requires.nodes (c.loop-k.k - 1) c.index-columns-k.result column) (rw (ap (λ (s : NodeSite). s.node) c.column.view_is) at c.index-stands-column.is) in
    among_from c.args.stands.now c.index-stands-column.result c.args.columns.now c.args.choices.now c.loop-k.k (c.loop-k.k - 1) c.index-columns-k.result c.index-choices-k.result _ c.loop-k.all.items c.in_ok-all.all.items (omega arith) column choice stood c.in_ok-states.ensures c.loop-k.invariant (rw (c.as_slice.ensures, c.as_slice-in-loop-k.ensures.value) at c.in_ok-all.ensures)
