use Rattle.kasa_lexer.proofs.CoverLemmas.{covers}
use Rattle.kasa_lexer.proofs.laws.tokens_cover_their_text.Goals as goal

pub returns : goal.returns
returns c = covers
