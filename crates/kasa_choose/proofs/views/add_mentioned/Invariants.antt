use Rattle.kasa_choose.specs.ViewSets.{site_lists}
use Rattle.kasa_choose.proofs.SiteSetLemmas.{HasPartsBefore}
use Rattle.kasa_choose.proofs.views.add_mentioned.Given as goal

abbrev pub invariant-loop-number : goal.invariant-loop-number
invariant-loop-number l = HasPartsBefore l.rule l.number l.agent (site_lists l.fn.sets.keys) (site_lists l.sets.keys)
