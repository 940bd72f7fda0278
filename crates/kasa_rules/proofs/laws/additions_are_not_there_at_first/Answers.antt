use Rattle.kasa_rules.proofs.ReachedLemmas.{HasInitOf-first}
use Rattle.kasa_rules.proofs.laws.additions_are_not_there_at_first.Goals as goal

pub returns : goal.returns
returns c = λ model m reached none d a e. HasInitOf-first model m reached none d a e
