use Rattle.kasa_parser.proofs.TextLaws.{one_fault}
use Rattle.kasa_parser.proofs.laws.a_declaration_has_one_fault_at_most.Goals as goal

pub returns : goal.returns
returns c = one_fault
