use Rattle.kasa_rules.specs.Rule.{fate_at, action_at, written_link, touched}
use Rattle.kasa_rules.proofs.rule.touched_at.Goals as goal

pub returns : goal.returns
unfolding fate_at action_at written_link touched
returns c = rw (← c.rule.view_is, ← c.deref.ensures.value) c.is_touched.ensures
