use Rattle.kasa_parser.proofs.PartLemmas.{are_parts}
use Rattle.kasa_parser.proofs.laws.declarations_are_parts_of_their_text.Goals as goal

pub returns : goal.returns
returns c = are_parts
