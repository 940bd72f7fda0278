use Rattle.kasa_columns.proofs.FreedColumns.{AreFreed-outcome}
use Rattle.kasa_columns.proofs.laws.freed_tests_are_free.Goals as goal

pub returns : goal.returns
returns c = λ sig r shape stands shown out ok comes. AreFreed-outcome r stands sig shape ok shown out comes
