use Rattle.kasa_top.proofs.OneOutcome.{one_due}
use Rattle.kasa_top.proofs.laws.one_outcome_is_due.Goals as goal

pub returns : goal.returns
returns c = one_due
