use Rattle.std.proofs.Common.{◌≡◌, Some, slice_get, ap, ◌∙◌, map}
use Rattle.kasa_families.specs.declared.family.Family.TheVariants.{Chain}
use Rattle.std.specs.List.{flat_map}
use Rattle.kasa_choose.specs.Kept.{keep_all}
use Rattle.kasa_choose.specs.Across.{type_of, further_sites}
use Rattle.kasa_choose.proofs.PlanLists.{element_at}
use Rattle.kasa_choose.proofs.TurnLemmas.{element_turn, taken_all}
use Rattle.kasa_choose.proofs.chains.add_chains.Goals as goal

pub loop-site-preserved : goal.loop-site-preserved
loop-site-preserved c =
    let first = c.args.first.now in
    let second = c.args.second.now in
    let at : slice_get (further_sites c.args.sig.now c.args.rule.now c.args.first.now.partner c.args.first.now.partner_site) c.loop-site.site-index ≡ Some c.site-item.result =
    element_at _ _ _ _ (c.as_slice-site-items.ensures.value ∙ c.in_ok-near.ensures) c.loop-site-test.true c.site-item.is in
    element_turn c.args.planned (λ p. map (Chain (type_of c.args.rule.now first.partner) first.partner_site p (type_of c.args.rule.now first.node) first.site second.site (type_of c.args.rule.now second.partner) second.partner_site) (further_sites c.args.sig.now c.args.rule.now second.partner second.partner_site)) _ c.loop-site.site-index c.site-item.result c.loop-site.planned c.in_ok-planned.planned at c.loop-site.invariant
    (rw (c.as_slice.ensures.value ∙ c.in_ok-far.ensures) at c.in_ok-planned.ensures)

pub returns : goal.returns
returns c =
    let first = c.args.first.now in
    let second = c.args.second.now in
    let near = further_sites c.args.sig.now c.args.rule.now first.partner first.partner_site in
    let same : c.as_slice-site-items.result.now ≡ further_sites c.args.sig.now c.args.rule.now c.args.first.now.partner c.args.first.now.partner_site = c.as_slice-site-items.ensures.value ∙ c.in_ok-near.ensures in
    c.loop-site.invariant
    ∙ ap (λ sites. keep_all c.args.planned (flat_map (λ p. map (Chain (type_of c.args.rule.now first.partner) first.partner_site p (type_of c.args.rule.now first.node) first.site second.site (type_of c.args.rule.now second.partner) second.partner_site) (further_sites c.args.sig.now c.args.rule.now second.partner second.partner_site)) sites))
    (taken_all near c.loop-site.site-index (rw same at c.loop-site-test.false))
