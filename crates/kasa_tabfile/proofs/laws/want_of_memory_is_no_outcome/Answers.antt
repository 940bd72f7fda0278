use Rattle.kasa_tabfile.proofs.Faults.{no-memory}
use Rattle.kasa_tabfile.proofs.laws.want_of_memory_is_no_outcome.Goals as goal

pub returns : goal.returns
returns c = no-memory
