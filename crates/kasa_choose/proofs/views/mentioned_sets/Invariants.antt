use Rattle.kasa_choose.specs.ViewSets.{site_lists}
use Rattle.kasa_choose.proofs.SiteSetLemmas.{HasRulePartsBefore}
use Rattle.kasa_choose.proofs.views.mentioned_sets.Given as goal

abbrev pub invariant-loop-rule : goal.invariant-loop-rule
invariant-loop-rule l = HasRulePartsBefore l.model.rules l.rule-index l.agent (site_lists l.sets.keys)
