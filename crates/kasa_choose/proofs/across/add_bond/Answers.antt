use Rattle.std.proofs.Common.{◌≡◌, Some, slice_get, ◌∙◌, map}
use Rattle.kasa_choose.specs.Across.{across, type_of, further_sites}
use Rattle.kasa_choose.proofs.PlanLists.{element_at}
use Rattle.kasa_choose.proofs.TurnLemmas.{element_turn}
use Rattle.kasa_choose.proofs.across.add_bond.Goals as goal

pub loop-site-preserved : goal.loop-site-preserved
loop-site-preserved c =
    let at : slice_get (further_sites c.args.sig.now c.args.rule.now c.args.bond.now.node c.args.bond.now.site) c.loop-site.site-index ≡ Some c.site-item.result =
    element_at _ _ _ _ (c.as_slice-site-items.ensures.value ∙ c.in_ok-near.ensures) c.loop-site-test.true c.site-item.is in
    element_turn c.args.planned (λ p. map (across (type_of c.args.rule.now c.args.bond.now.node) c.args.bond.now.site p (type_of c.args.rule.now c.args.bond.now.partner) c.args.bond.now.partner_site) (further_sites c.args.sig.now c.args.rule.now c.args.bond.now.partner c.args.bond.now.partner_site)) _ c.loop-site.site-index c.site-item.result c.loop-site.planned c.in_ok-planned.planned at c.loop-site.invariant
    (rw (c.as_slice.ensures.value ∙ c.in_ok-far.ensures) at c.in_ok-planned.ensures)
