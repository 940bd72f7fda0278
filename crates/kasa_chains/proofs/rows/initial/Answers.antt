use Rattle.kasa_chains.proofs.KindLemmas.{HasColumns-kind}
use Rattle.kasa_chains.proofs.rows.initial.Goals as goal

pub initial-requires-clause-columns : goal.initial-requires-clause-columns
initial-requires-clause-columns c = HasColumns-kind c.args.family.now c.requires.chain
