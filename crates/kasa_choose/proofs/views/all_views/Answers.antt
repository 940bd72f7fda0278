use Rattle.std.proofs.Common.{◌≡◌, ap, subst, ◌∙◌, length, ◌≤◌, arith}
use Rattle.std.proofs.lemmas.Result.{IfOk-weaker}
use Rattle.kasa_rules.specs.Reached.{IsModel}
use Rattle.kasa_choose.specs.ViewSets.{view_families}
use Rattle.kasa_choose.proofs.PlanLemmas.{IfOk-both, planned_more, IsViewPlan-all}
use Rattle.kasa_choose.proofs.ViewList.{views_listed}
use Rattle.kasa_choose.proofs.views.all_views.Goals as goal

pub loop-agent-preserved : goal.loop-agent-preserved
loop-agent-preserved c =
    planned_more c.args.model.now c.loop-agent.agent (view_families c.loop-agent.views.keys) (view_families c.add_views.new.views.keys) c.loop-agent.invariant c.in_ok-add_views.ensures

pub returns : goal.returns
returns c =
    let is : IsModel c.args.model.now = subst IsModel c.model.view_is c.model.invariant.0 in
    let types : c.types-agent-end.result ≡ length c.args.model.now.sig = c.types-agent-end.ensures.count ∙ ap (λ m. length m.sig) c.model.view_is in
    let most : c.loop-agent.agent ≤ c.types-agent-end.result = c.loop-agent.auto.agent-end in
    let least : c.types-agent-end.result ≤ c.loop-agent.agent = c.loop-agent-test.false in
    let all : c.loop-agent.agent ≡ length c.args.model.now.sig = omega arith in
    IfOk-weaker c.families_of.result _ _
    (λ families both. views_listed c.args.model.now is families.items (IsViewPlan-all c.args.model.now c.loop-agent.agent (view_families c.loop-agent.views.keys) families.items all c.loop-agent.invariant both.0 both.1))
    (IfOk-both c.families_of.result _ _ c.families_of.ensures.same c.families_of.ensures.ordered)
