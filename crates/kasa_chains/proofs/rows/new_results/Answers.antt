use Rattle.kasa_chains.proofs.KindLemmas.{HasColumns-kind}
use Rattle.kasa_chains.proofs.rows.new_results.Goals as goal

pub new_results-requires-clause-columns : goal.new_results-requires-clause-columns
new_results-requires-clause-columns g c = let k = c.requires.chain in (k.0, k.1, HasColumns-kind k.0 k.2)
