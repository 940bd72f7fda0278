use Rattle.kasa_rules.proofs.EqualLemmas.{same_rule, same_model}
use Rattle.kasa_rules.proofs.laws.equal_is_the_same.Goals as goal

pub returns-clause-rules : goal.returns-clause-rules
returns-clause-rules c = same_rule

pub returns-clause-models : goal.returns-clause-models
returns-clause-models c = same_model
