use Rattle.std.proofs.Common.{◌≡◌, ◌<◌, ◌≤◌, length, ap, sym, ◌∙◌, Some, arith}
use Rattle.std.proofs.lemmas.Bool.{eqb-true, eq-eqb}
use Rattle.std.proofs.lemmas.Option.{slice_get_within}
use Rattle.kasa_graph.proofs.ShapeLemmas.{node_of_agent}
use Rattle.kasa_choose.specs.ViewPlan.{IsLeftNode}
use Rattle.kasa_choose.specs.ViewSets.{site_lists}
use Rattle.kasa_choose.proofs.PlanLists.{told_not}
use Rattle.kasa_choose.proofs.SiteSetLemmas.{parts_more, parts_skip, parts_all}
use Rattle.kasa_choose.proofs.views.add_mentioned.Goals as goal
use Rattle.kasa_choose.proofs.views.add_mentioned.Goals.{then-eq+in_ok-sites+in_ok-add_parts, else-eq}

pub loop-number-preserved : goal.loop-number-preserved
loop-number-preserved c =
    let typed : IsLeftNode c.args.rule.now c.loop-number.number c.agent.result = rw c.left-in-loop-number.ensures.pattern at c.agent.ensures in
    elim c.if-eq.branch [
      | then-eq+in_ok-sites+in_ok-add_parts w ↦
          let same : c.agent.result ≡ c.args.agent = eqb-true _ _ (sym c.eq.ensures ∙ w.if-eq.true) in
          rw (ap (λ v. v.keys) w.sets-is)
          (parts_more c.args.rule.now c.loop-number.number c.args.agent w.in_ok-sites.sites.items (site_lists c.args.sets.now.keys) (site_lists c.loop-number.sets.keys) (site_lists w.add_parts.new.sets.keys)
          (typed ∙ ap Some same) w.in_ok-sites.ensures (rw w.deref.ensures.value at w.in_ok-add_parts.ensures) c.loop-number.invariant)
      | else-eq w ↦ rw (ap (λ v. v.keys) w.sets-is)
          (parts_skip c.args.rule.now c.loop-number.number c.args.agent (site_lists c.args.sets.now.keys) (site_lists c.loop-number.sets.keys)
          (λ node. let both : Some c.agent.result ≡ Some c.args.agent = sym typed ∙ node in let same : c.agent.result ≡ c.args.agent = cc in
          told_not (c.agent.result ≡ c.args.agent) _ w.if-eq.false (λ e. c.eq.ensures ∙ eq-eqb _ _ e) same) c.loop-number.invariant)
    ]

pub returns : goal.returns
returns c =
    let count : c.nodes-number-end.result ≡ length c.args.rule.now.left = c.nodes-number-end.ensures.count ∙ ap length c.left.ensures.pattern in
    let all : c.nodes-number-end.result ≤ c.loop-number.number = c.loop-number-test.false in
    parts_all c.args.rule.now c.loop-number.number c.args.agent (site_lists c.args.sets.now.keys) (site_lists c.loop-number.sets.keys)
    (λ n node. let at = node_of_agent c.args.rule.now.left n c.args.agent node in let within : n < length c.args.rule.now.left = slice_get_within c.args.rule.now.left n at.0 at.1 in omega arith) c.loop-number.invariant
