use Rattle.kasa_tabfile.proofs.OrderedTables.{ordered_read}
use Rattle.kasa_tabfile.proofs.laws.a_text_of_tables_reads_back.Goals as goal

pub returns : goal.returns
returns c = ordered_read
