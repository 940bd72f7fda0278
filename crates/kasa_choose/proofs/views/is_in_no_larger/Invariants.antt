use Rattle.kasa_choose.specs.ViewPlan.{IsWithin}
use Rattle.kasa_choose.proofs.PlanLists.{IsEachBefore}
use Rattle.kasa_choose.proofs.views.is_in_no_larger.Given as goal

abbrev pub invariant-loop-set : goal.invariant-loop-set
invariant-loop-set l = IsEachBefore (λ others. IsWithin l.sites others → IsWithin others l.sites) l.sets l.set-index
