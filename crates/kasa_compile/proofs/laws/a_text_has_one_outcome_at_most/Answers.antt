use Rattle.kasa_compile.proofs.OneOutcome.{one_outcome}
use Rattle.kasa_compile.proofs.laws.a_text_has_one_outcome_at_most.Goals as goal

pub returns : goal.returns
returns c = one_outcome
