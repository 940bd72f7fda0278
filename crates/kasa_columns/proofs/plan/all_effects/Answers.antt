use Rattle.std.proofs.Common.{◌≡◌, refl, ap, length, take, Some}
use Rattle.std.specs.Prelude.{slice_get}
use Rattle.std.proofs.lemmas.Option.{slice_get_read}
use Rattle.indexmap.proofs.SetLemmas.{AllZip-push}
use Rattle.kasa_families.specs.declared.shape.NodeSite.{NodeSite}
use Rattle.kasa_families.specs.Shape.{Nth}
use Rattle.kasa_families.proofs.ColumnLemmas.{to_nth}
use Rattle.kasa_columns.specs.declared.plan.Effect.{Effect}
use Rattle.kasa_columns.specs.Plan.{IsEffect}
use Rattle.kasa_columns.proofs.Pushing.{take_one_at}
use Rattle.kasa_columns.proofs.plan.all_effects.Goals as goal

pub loop-k-preserved : goal.loop-k-preserved
loop-k-preserved c =
    let column : slice_get c.args.columns.now c.loop-k.k ≡ Some c.index-columns-k.result = slice_get_read c.args.columns.now (length c.args.columns.now) c.loop-k.k c.index-columns-k.result refl c.loop-k-test.true c.index-columns-k.is in
    let stood : slice_get c.args.stands.now c.index-columns-k.result.node ≡ Some c.index-stands-column.result = slice_get_read c.args.stands.now (length c.args.stands.now) c.index-columns-k.result.node c.index-stands-column.result refl (c.requires.nodes c.loop-k.k c.index-columns-k.result column) (rw (ap (λ (s : NodeSite). s.node) c.column.view_is) at c.index-stands-column.is) in
    let site = ap (λ (s : NodeSite). s.site) c.column.view_is in
    let effect : Effect = record { state = c.state_written-state.result; link = c.link_left-link.result } in
    let is : IsEffect c.args.rule.now c.index-columns-k.result.site effect c.index-stands-column.result = record { state = rw site at c.state_written-state.ensures; link = rw site at c.link_left-link.ensures } in
    rw (c.in_ok-push.ensures.items, take_one_at c.args.columns.now c.loop-k.k c.index-columns-k.result column)
    (AllZip-push (λ (s : NodeSite) (e : Effect). Nth c.args.stands.now s.node (IsEffect c.args.rule.now s.site e)) (take c.loop-k.k c.args.columns.now) c.loop-k.effects.items c.index-columns-k.result effect c.loop-k.invariant (to_nth c.args.stands.now c.index-columns-k.result.node _ c.index-stands-column.result stood is))
