use Rattle.std.proofs.Common.{◌≡◌, ◌-◌, ◌<◌, length, refl, ap, arith}
use Rattle.std.specs.Prelude.{Some, slice_get}
use Rattle.std.proofs.lemmas.Option.{slice_get_read}
use Rattle.kasa_families.specs.declared.shape.NodeSite.{NodeSite}
use Rattle.kasa_columns.proofs.OutcomeLemmas.{columns_from}
use Rattle.kasa_columns.proofs.fired.outcomes.Goals as goal

pub loop-k-preserved : goal.loop-k-preserved
loop-k-preserved c =
    let within : c.loop-k.k - 1 < length c.args.columns.now = omega arith in
    let column : slice_get c.args.columns.now (c.loop-k.k - 1) ≡ Some c.index-columns-k.result = slice_get_read c.args.columns.now (length c.args.columns.now) (c.loop-k.k - 1) c.index-columns-k.result refl within c.index-columns-k.is in
    let local : slice_get c.args.shown.now (c.loop-k.k - 1) ≡ Some c.index-shown-k.result = slice_get_read c.args.shown.now (length c.args.shown.now) (c.loop-k.k - 1) c.index-shown-k.result refl (omega (arith, c.requires.count)) c.index-shown-k.is in
    let stood : slice_get c.args.stands.now c.index-columns-k.result.node ≡ Some c.index-stands-column.result = slice_get_read c.args.stands.now (length c.args.stands.now) c.index-columns-k.result.node c.index-stands-column.result refl (c.requires.nodes (c.loop-k.k - 1) c.index-columns-k.result column) (rw (ap (λ (s : NodeSite). s.node) c.column.view_is) at c.index-stands-column.is) in
    columns_from c.args.rule.now c.args.stands.now c.index-stands-column.result c.args.columns.now c.args.shown.now c.loop-k.k (c.loop-k.k - 1) c.index-columns-k.result c.index-shown-k.result c.loop-k.outs.items c.in_ok-outs.outs.items (omega arith) column local stood c.loop-k.invariant (rw c.as_slice.ensures.value at c.in_ok-outs.ensures)
