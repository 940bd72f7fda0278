use Rattle.kasa_polymers.proofs.Verdicts.{one_verdict, some_verdict}
use Rattle.kasa_polymers.proofs.laws.there_is_one_verdict.Goals as goal

pub returns : goal.returns
returns c = record {
  one = λ model tables v w valid one two. one_verdict model tables valid v w one two;
  some = λ model tables bonds map_of decided. some_verdict model tables bonds map_of decided;
}
