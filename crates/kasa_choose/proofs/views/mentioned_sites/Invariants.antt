use Rattle.kasa_choose.specs.ViewPlan.{Mentions}
use Rattle.kasa_choose.proofs.PlanLists.{IsListBelow}
use Rattle.kasa_choose.proofs.views.mentioned_sites.Given as goal

abbrev pub invariant-loop-number : goal.invariant-loop-number
invariant-loop-number l = IsListBelow (Mentions l.rule l.node) l.number l.sites.items
