use Rattle.kasa_polymers.proofs.Bound.{AllSpeciesWithin-reached}
use Rattle.kasa_polymers.proofs.ContactLemmas.{IsContactBond-reached}
use Rattle.kasa_polymers.proofs.laws.species_are_within_the_bound.Goals as goal

pub returns : goal.returns
returns c = λ model tables m n ok valid closed reached bound.
    AllSpeciesWithin-reached model tables m n ok valid closed reached (IsContactBond-reached model valid tables ok closed m reached) bound
