use Rattle.kasa_tabfile.proofs.OrderedTables.{one_text}
use Rattle.kasa_tabfile.proofs.laws.tables_have_one_text_at_most.Goals as goal

pub returns : goal.returns
returns c = one_text
