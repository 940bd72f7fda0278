use Rattle.kasa_columns.proofs.Along.{stays}
use Rattle.kasa_columns.proofs.laws.what_stays_was_there.Goals as goal

pub returns : goal.returns
returns c = stays
