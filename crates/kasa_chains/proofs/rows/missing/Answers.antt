use Rattle.kasa_chains.proofs.KindLemmas.{HasColumns-kind}
use Rattle.kasa_chains.proofs.rows.missing.Goals as goal

pub missing-requires-clause-columns : goal.missing-requires-clause-columns
missing-requires-clause-columns g c = let k = c.requires.chain in (k.0, k.1, HasColumns-kind k.0 k.2)
