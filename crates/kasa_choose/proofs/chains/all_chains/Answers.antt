use Rattle.std.proofs.Common.{◌≡◌, ◌≤◌, length, [], ap, subst, ◌∙◌, Some, slice_get}
use Rattle.std.specs.List.{flat_map}
use Rattle.kasa_choose.specs.Kept.{keep_all}
use Rattle.kasa_choose.specs.Chains.{chains_of_rule}
use Rattle.kasa_choose.proofs.PlanLists.{element_at}
use Rattle.kasa_choose.proofs.TurnLemmas.{element_turn, taken_all}
use Rattle.kasa_choose.proofs.chains.all_chains.Goals as goal

pub add_rule-requires : goal.add_rule-requires
add_rule-requires c =
    let at : slice_get c.model.inside.rules c.loop-rule.rule-index ≡ Some c.rule-item.result = element_at _ _ _ _ c.as_slice-rule-items.ensures c.loop-rule-test.true c.rule-item.is in
    c.model.invariant.0.rules c.loop-rule.rule-index c.rule-item.result at

pub loop-rule-preserved : goal.loop-rule-preserved
loop-rule-preserved c =
    let at : slice_get c.args.model.now.rules c.loop-rule.rule-index ≡ Some c.rule-item.result =
    element_at _ _ _ _ (c.as_slice-rule-items.ensures ∙ ap (λ m. m.rules) c.model.view_is) c.loop-rule-test.true c.rule-item.is in
    element_turn [] (chains_of_rule c.args.model.now.sig) c.args.model.now.rules c.loop-rule.rule-index c.rule-item.result c.loop-rule.planned c.in_ok-planned.planned at c.loop-rule.invariant
    (subst (λ m. c.in_ok-planned.planned ≡ keep_all c.loop-rule.planned (chains_of_rule m.sig c.rule-item.result)) c.model.view_is c.in_ok-planned.ensures)

pub returns : goal.returns
returns c =
    let same : c.as_slice-rule-items.result.now ≡ c.args.model.now.rules = c.as_slice-rule-items.ensures ∙ ap (λ m. m.rules) c.model.view_is in
    let most : length c.args.model.now.rules ≤ c.loop-rule.rule-index = rw same at c.loop-rule-test.false in
    c.families.ensures ∙ c.loop-rule.invariant ∙ ap (λ rules. keep_all [] (flat_map (chains_of_rule c.args.model.now.sig) rules)) (taken_all c.args.model.now.rules c.loop-rule.rule-index most)
