use Rattle.std.proofs.Common.{◌↔◌}
use Rattle.kasa_graph.specs.Lists.{Has}
use Rattle.kasa_families.specs.declared.family.Family.{Family}
use Rattle.kasa_choose.specs.ViewSets.{view_families}
use Rattle.kasa_choose.proofs.PlanLemmas.{IsPlannedBefore}
use Rattle.kasa_choose.proofs.views.all_views.Given as goal

abbrev pub invariant-loop-agent : goal.invariant-loop-agent
invariant-loop-agent l = (f : Family) → Has (view_families l.views.keys) f ↔ IsPlannedBefore l.model l.agent f
