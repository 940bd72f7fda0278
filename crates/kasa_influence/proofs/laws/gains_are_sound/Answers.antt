use Rattle.kasa_influence.proofs.InfluenceLemmas.{gains-reached, MakesNone-reached}
use Rattle.kasa_influence.proofs.laws.gains_are_sound.Goals as goal

pub returns : goal.returns
returns c = record {
  found = λ model tables m r r2 cells others ok valid closed reached first second at later. gains-reached model tables ok valid closed r r2 first second m cells others reached at later;
  no_gain = λ model tables r r2 ok valid closed first second none. MakesNone-reached model tables ok valid closed r r2 first second none;
}
