use Rattle.kasa_lexer.proofs.OutcomeLemmas.{one_outcome}
use Rattle.kasa_lexer.proofs.laws.a_text_has_one_outcome_at_most.Goals as goal

pub returns : goal.returns
returns c = one_outcome
