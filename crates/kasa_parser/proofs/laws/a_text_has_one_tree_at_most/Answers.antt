use Rattle.kasa_parser.proofs.TextLaws.{one_outcome}
use Rattle.kasa_parser.proofs.laws.a_text_has_one_tree_at_most.Goals as goal

pub returns : goal.returns
returns c = one_outcome
