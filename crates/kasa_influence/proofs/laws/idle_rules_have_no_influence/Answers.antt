use Rattle.kasa_influence.proofs.IdleLemmas.{no_gain-idle, no_loss-idle}
use Rattle.kasa_influence.proofs.laws.idle_rules_have_no_influence.Goals as goal

pub returns : goal.returns
returns c = record {
  no_gain = λ sig tables r r2 idle. no_gain-idle sig tables r r2 idle;
  no_loss = λ sig tables r r2 idle. no_loss-idle sig tables r r2 idle;
}
