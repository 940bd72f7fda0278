use Rattle.kasa_fixpoint.specs.Pairs.{AreActingBefore}
use Rattle.kasa_fixpoint.proofs.pairs.add_acting.Given as goal

abbrev pub invariant-loop-f : goal.invariant-loop-f
invariant-loop-f l = AreActingBefore l.model l.families l.k l.f l.pairs.items
