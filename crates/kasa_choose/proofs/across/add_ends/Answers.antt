use Rattle.std.proofs.Common.{◌≡◌, Some, slice_get, refl, ap, ◌∙◌}
use Rattle.kasa_choose.specs.Kept.{keep}
use Rattle.kasa_choose.specs.Across.{across, type_of}
use Rattle.kasa_choose.proofs.PlanLists.{element_at}
use Rattle.kasa_choose.proofs.AcrossLemmas.{typed}
use Rattle.kasa_choose.proofs.TurnLemmas.{map_turn}
use Rattle.kasa_choose.proofs.across.add_ends.Goals as goal

pub loop-site-preserved : goal.loop-site-preserved
loop-site-preserved c =
    let at : slice_get c.args.far.now c.loop-site.site-index ≡ Some c.site-item.result = element_at _ _ _ _ refl c.loop-site-test.true c.site-item.is in
    let a : type_of c.args.rule.now c.args.bond.now.node ≡ c.agent-agent.result = typed c.args.rule.now _ _ (rw c.left.ensures.pattern at c.agent-agent.ensures) in
    let b : type_of c.args.rule.now c.args.bond.now.partner ≡ c.agent-partner.result = typed c.args.rule.now _ _ (rw c.left-2.ensures.pattern at c.agent-partner.ensures) in
    map_turn c.args.planned (across (type_of c.args.rule.now c.args.bond.now.node) c.args.bond.now.site c.args.near (type_of c.args.rule.now c.args.bond.now.partner) c.args.bond.now.partner_site) c.args.far.now c.loop-site.site-index c.site-item.result c.loop-site.planned c.in_ok-planned.planned at c.loop-site.invariant
    (c.in_ok-planned.ensures ∙ ap (keep c.loop-site.planned) (rw (a, b) c.across.ensures))
