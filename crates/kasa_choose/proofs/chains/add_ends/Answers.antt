use Rattle.std.proofs.Common.{◌≡◌, Some, slice_get, refl}
use Rattle.kasa_families.specs.declared.family.Family.TheVariants.{Chain}
use Rattle.kasa_choose.specs.Across.{type_of}
use Rattle.kasa_choose.proofs.PlanLists.{element_at}
use Rattle.kasa_choose.proofs.AcrossLemmas.{typed}
use Rattle.kasa_choose.proofs.TurnLemmas.{map_turn}
use Rattle.kasa_choose.proofs.chains.add_ends.Goals as goal

pub loop-site-preserved : goal.loop-site-preserved
loop-site-preserved c =
    let first = c.args.first.now in
    let second = c.args.second.now in
    let at : slice_get c.args.far.now c.loop-site.site-index ≡ Some c.site-item.result = element_at _ _ _ _ refl c.loop-site-test.true c.site-item.is in
    let a : type_of c.args.rule.now c.args.first.now.partner ≡ c.agent-outer.result = typed c.args.rule.now _ _ (rw c.left.ensures.pattern at c.agent-outer.ensures) in
    let b : type_of c.args.rule.now c.args.first.now.node ≡ c.agent-middle.result = typed c.args.rule.now _ _ (rw c.left-2.ensures.pattern at c.agent-middle.ensures) in
    let d : type_of c.args.rule.now c.args.second.now.partner ≡ c.agent-other.result = typed c.args.rule.now _ _ (rw c.left-3.ensures.pattern at c.agent-other.ensures) in
    map_turn c.args.planned (Chain (type_of c.args.rule.now first.partner) first.partner_site c.args.near (type_of c.args.rule.now first.node) first.site second.site (type_of c.args.rule.now second.partner) second.partner_site) c.args.far.now c.loop-site.site-index c.site-item.result c.loop-site.planned c.in_ok-planned.planned at c.loop-site.invariant
    (rw (a, b, d) c.in_ok-planned.ensures)
