use Rattle.kasa_rules.specs.Rule.{fate_at, action_at, written_link, touched}
use Rattle.kasa_rules.proofs.draft.RuleDraft.touches.Goals as goal

pub returns : goal.returns
unfolding fate_at action_at written_link touched
returns c = rw (← c.self.view_is, ← c.deref.ensures.value, ← c.site.view_is) c.is_touched.ensures
