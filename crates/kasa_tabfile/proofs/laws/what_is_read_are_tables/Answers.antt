use Rattle.kasa_tabfile.proofs.Sound.{valid, shaped}
use Rattle.kasa_tabfile.proofs.laws.what_is_read_are_tables.Goals as goal

pub returns-clause-valid : goal.returns-clause-valid
returns-clause-valid c = valid

pub returns-clause-shaped : goal.returns-clause-shaped
returns-clause-shaped c = shaped
