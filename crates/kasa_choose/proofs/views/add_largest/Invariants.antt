use Rattle.kasa_choose.specs.ViewSets.{view_families}
use Rattle.kasa_choose.proofs.PlanLemmas.{HasAdded}
use Rattle.kasa_choose.proofs.views.add_largest.Given as goal

abbrev pub invariant-loop-set : goal.invariant-loop-set
invariant-loop-set l = HasAdded l.sets l.set-index l.agent (view_families l.fn.views.keys) (view_families l.views.keys)
