use Rattle.kasa_parser.proofs.TextLaws.{one_declaration}
use Rattle.kasa_parser.proofs.laws.words_are_one_declaration_at_most.Goals as goal

pub returns : goal.returns
returns c = one_declaration
