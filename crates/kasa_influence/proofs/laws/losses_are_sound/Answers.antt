use Rattle.kasa_influence.proofs.InfluenceLemmas.{losses-reached, StopsNone-reached}
use Rattle.kasa_influence.proofs.laws.losses_are_sound.Goals as goal

pub returns : goal.returns
returns c = record {
  found = λ model tables m r r2 cells others ok valid closed reached first second at before. losses-reached model tables ok valid closed r r2 first second m cells others reached at before;
  no_loss = λ model tables r r2 ok valid closed first second none. StopsNone-reached model tables ok valid closed r r2 first second none;
}
