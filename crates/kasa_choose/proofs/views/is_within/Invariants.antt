use Rattle.kasa_graph.specs.Lists.{Has}
use Rattle.kasa_choose.proofs.PlanLists.{IsEachBefore}
use Rattle.kasa_choose.proofs.views.is_within.Given as goal

abbrev pub invariant-loop-site : goal.invariant-loop-site
invariant-loop-site l = IsEachBefore (λ s. Has l.others s) l.sites l.site-index
