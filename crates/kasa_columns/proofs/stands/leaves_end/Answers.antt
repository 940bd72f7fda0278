use Rattle.std.proofs.Common.{◌≡◌, refl, ap, length, Some, None}
use Rattle.std.specs.Prelude.{slice_get}
use Rattle.std.proofs.lemmas.Option.{slice_get_read, slice_get_past}
use Rattle.kasa_families.specs.declared.shape.NodeSite.{NodeSite}
use Rattle.kasa_families.proofs.ColumnLemmas.{nth_some, nth_none}
use Rattle.kasa_pre.specs.declared.Stand.{Stand}
use Rattle.kasa_pre.specs.Before.{link_written}
use Rattle.kasa_columns.proofs.stands.leaves_end.Goals as goal

pub returns-then-n-stands : goal.returns-then-n-stands
returns-then-n-stands c = nth_none c.args.stands.now c.args.e.node (λ (stand : Stand). link_written c.args.rule.now stand c.args.e.site ≡ None) (slice_get_past c.args.stands.now c.args.e.node (rw (ap (λ (x : NodeSite). x.node) c.e.view_is) at c.if-n-stands.true))

pub returns : goal.returns
returns c =
    let at : slice_get c.args.stands.now c.args.e.node ≡ Some c.index-stands-n.result = slice_get_read c.args.stands.now (length c.args.stands.now) c.args.e.node c.index-stands-n.result refl (rw (ap (λ (x : NodeSite). x.node) c.e.view_is) at c.if-n-stands.false) (rw (ap (λ (x : NodeSite). x.node) c.e.view_is) at c.index-stands-n.is) in
    nth_some c.args.stands.now c.args.e.node (λ (stand : Stand). link_written c.args.rule.now stand c.args.e.site ≡ None) c.index-stands-n.result c.leaves_site.result at c.leaves_site.ensures
