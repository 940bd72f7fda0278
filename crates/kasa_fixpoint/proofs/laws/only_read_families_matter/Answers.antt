use Rattle.kasa_fixpoint.proofs.ReadLemmas.{Yields-read}
use Rattle.kasa_fixpoint.proofs.laws.only_read_families_matter.Goals as goal

pub returns : goal.returns
returns c = Yields-read
