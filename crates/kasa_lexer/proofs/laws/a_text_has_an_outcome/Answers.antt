use Rattle.kasa_lexer.proofs.OutcomeLemmas.{an_outcome}
use Rattle.kasa_lexer.proofs.laws.a_text_has_an_outcome.Goals as goal

pub returns : goal.returns
returns c = an_outcome
