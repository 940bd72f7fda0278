use Rattle.kasa_fixpoint.proofs.ReadLemmas.{Yields-within}
use Rattle.kasa_fixpoint.proofs.laws.larger_tables_yield_more.Goals as goal

pub returns : goal.returns
returns c = Yields-within
