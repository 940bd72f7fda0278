use Rattle.kasa_parallel.proofs.RowBonds.{Holds-unwritten}
use Rattle.kasa_parallel.proofs.laws.unwritten_bonds_give_nothing_new.Goals as goal

pub returns : goal.returns
returns c sig tables r a x u b y w row first ok rule has valid no_x no_u y' = Holds-unwritten sig tables ok r rule a x u b y w has y'.stands y'.freed first y'.begins no_x no_u row valid y'.yields
