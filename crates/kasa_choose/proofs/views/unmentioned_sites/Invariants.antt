use Rattle.kasa_choose.specs.ViewSets.{IsInSome, site_lists}
use Rattle.kasa_choose.proofs.PlanLists.{IsListBelow}
use Rattle.kasa_choose.proofs.views.unmentioned_sites.Given as goal

abbrev pub invariant-loop-number : goal.invariant-loop-number
invariant-loop-number l = IsListBelow (λ s. IsInSome (site_lists l.sets.keys) s → ⊥) l.number l.sites.items
