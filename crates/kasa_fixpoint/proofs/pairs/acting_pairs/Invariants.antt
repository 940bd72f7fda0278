use Rattle.kasa_fixpoint.specs.Pairs.{AreActingBefore}
use Rattle.kasa_fixpoint.proofs.pairs.acting_pairs.Given as goal

abbrev pub invariant-loop-k : goal.invariant-loop-k
invariant-loop-k l = AreActingBefore l.model l.families l.k 0 l.pairs.items
