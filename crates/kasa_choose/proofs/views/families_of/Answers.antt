use Rattle.std.proofs.Common.{◌≡◌, ap, sym, subst, ◌∙◌}
use Rattle.std.proofs.lemmas.Map.Iter.{iter_end}
use Rattle.kasa_graph.proofs.SignatureLemmas.{map-push}
use Rattle.kasa_choose.specs.ViewPlan.{AreInOrder}
use Rattle.kasa_choose.specs.ViewSets.{view_family, view_families}
use Rattle.kasa_choose.proofs.InsertedKeys.{map-given}
use Rattle.kasa_choose.proofs.ViewOrder.{ordered_views}
use Rattle.kasa_choose.proofs.views.families_of.Goals as goal
use Rattle.kasa_choose.proofs.views.families_of.Goals.{After-drop-agent-iterator-2}

pub loop-agent-preserved : goal.loop-agent-preserved
loop-agent-preserved c =
    c.in_ok-push.ensures.items ∙ rw (c.new.ensures, c.loop-agent.invariant) (sym (map-push view_family c.loop-agent.yielded (c.in-Some.agent, c.in-Some.sites)))

-- the loop went over the whole set
all_families : (c : After-drop-agent-iterator-2) → c.loop-agent.families.items ≡ view_families c.args.views.keys
all_families c =
    let all = iter_end _ _ _ _ _ _ _ c.into_iter-agent-iterator.ensures.into_iter_gives.0 c.loop-agent.yielded_by c.in-None.is c.next.ensures.steps in
    c.loop-agent.invariant ∙ sym (map-given view_family c.loop-agent.yielded) ∙ ap view_families all.0

pub returns-clause-same : goal.returns-clause-same
returns-clause-same c = all_families c

pub returns-clause-ordered : goal.returns-clause-ordered
returns-clause-ordered c = subst AreInOrder (sym (all_families c)) (ordered_views c.args.views.keys c.into_iter-agent-iterator.ensures.into_iter_gives.4)
