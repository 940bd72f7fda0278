use Rattle.std.proofs.Common.{◌≡◌, ap, ◌∙◌, Some, slice_get}
use Rattle.kasa_choose.specs.ViewSets.{site_lists}
use Rattle.kasa_choose.proofs.PlanLists.{element_at}
use Rattle.kasa_choose.proofs.SiteSetLemmas.{rule_parts_more, rule_parts_all}
use Rattle.kasa_choose.proofs.views.mentioned_sets.Goals as goal

pub add_mentioned-requires : goal.add_mentioned-requires
add_mentioned-requires c =
    let at : slice_get c.model.inside.rules c.loop-rule.rule-index ≡ Some c.rule-item.result = element_at _ _ _ _ c.as_slice-rule-items.ensures c.loop-rule-test.true c.rule-item.is in
    c.model.invariant.0.rules c.loop-rule.rule-index c.rule-item.result at

pub loop-rule-preserved : goal.loop-rule-preserved
loop-rule-preserved c =
    let at : slice_get c.args.model.now.rules c.loop-rule.rule-index ≡ Some c.rule-item.result =
    element_at _ _ _ _ (c.as_slice-rule-items.ensures ∙ ap (λ m. m.rules) c.model.view_is) c.loop-rule-test.true c.rule-item.is in
    rule_parts_more c.args.model.now.rules c.loop-rule.rule-index c.args.agent c.rule-item.result (site_lists c.loop-rule.sets.keys) (site_lists c.add_mentioned.new.sets.keys) at c.in_ok-add_mentioned.ensures c.loop-rule.invariant

pub returns : goal.returns
returns c =
    let same : c.as_slice-rule-items.result.now ≡ c.args.model.now.rules = c.as_slice-rule-items.ensures ∙ ap (λ m. m.rules) c.model.view_is in
    rule_parts_all c.args.model.now c.loop-rule.rule-index c.args.agent (site_lists c.loop-rule.sets.keys) (rw same at c.loop-rule-test.false) c.loop-rule.invariant
