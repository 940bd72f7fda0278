use Rattle.kasa_influence.proofs.MakesLemmas.{listed_or_not}
use Rattle.kasa_influence.proofs.makes.frees.Goals as goal

pub returns : goal.returns
returns c = listed_or_not c.args.freed.now c.is_empty.result c.is_empty.ensures
