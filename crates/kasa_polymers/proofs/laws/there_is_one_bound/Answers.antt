use Rattle.kasa_polymers.proofs.Weights.{one_bound, no_closed_walk}
use Rattle.kasa_polymers.proofs.laws.there_is_one_bound.Goals as goal

pub returns : goal.returns
returns c = record {
  one = λ model tables n k first second. one_bound model tables n k first second;
  none = λ model tables n points valid bound. no_closed_walk model tables valid bound.weight bound.weighing points;
}
