use Rattle.kasa_polymers.proofs.ContactLemmas.{IsContactBond-reached, IsContactState-reached, IsContactBond-back}
use Rattle.kasa_polymers.proofs.laws.contact_map_is_sound.Goals as goal

pub returns : goal.returns
returns c = record {
  bonds = λ model tables m bond ok valid closed reached has. IsContactBond-reached model valid tables ok closed m reached bond has;
  states = λ model tables m seen ok valid closed reached has. IsContactState-reached model valid tables ok closed m reached seen has;
  both_ways = λ model tables bond valid is. IsContactBond-back model tables valid bond is;
}
