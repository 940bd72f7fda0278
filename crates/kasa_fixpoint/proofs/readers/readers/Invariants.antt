use Rattle.kasa_fixpoint.specs.Readers.{AreReadersBelow}
use Rattle.kasa_fixpoint.proofs.readers.readers.Given as goal

abbrev pub invariant-loop-p : goal.invariant-loop-p
invariant-loop-p l = AreReadersBelow l.model l.families l.pairs l.p l.lists.items
