use Rattle.kasa_polymers.proofs.Rounds.{bound_exists}
use Rattle.kasa_polymers.proofs.laws.there_is_a_bound.Goals as goal

pub returns : goal.returns
returns c = λ model tables bonds map_of decided none. bound_exists model tables bonds map_of decided none
