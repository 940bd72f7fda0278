use Rattle.kasa_parser.proofs.TextLaws.{an_outcome}
use Rattle.kasa_parser.proofs.laws.a_text_has_a_tree_or_a_fault.Goals as goal

pub returns : goal.returns
returns c = an_outcome
