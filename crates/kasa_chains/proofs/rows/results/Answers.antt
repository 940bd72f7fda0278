use Rattle.kasa_chains.proofs.KindLemmas.{HasColumns-kind}
use Rattle.kasa_chains.proofs.rows.results.Goals as goal

pub results-requires-clause-columns : goal.results-requires-clause-columns
results-requires-clause-columns g c = let k = c.requires.chain in (k.0, k.1, HasColumns-kind k.0 k.2)
