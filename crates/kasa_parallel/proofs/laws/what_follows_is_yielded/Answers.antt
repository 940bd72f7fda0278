use Rattle.kasa_pre.proofs.StepLemmas.{Yields-fire}
use Rattle.kasa_parallel.proofs.laws.what_follows_is_yielded.Goals as goal

pub returns : goal.returns
returns c sig tables m r cells family row parallel ok over cover rule there valid occurs = Yields-fire sig tables m ok over cover r cells rule there family row valid occurs
