use Rattle.kasa_worklist.proofs.AgendaLemmas.{AreBelow}
use Rattle.kasa_worklist.proofs.agenda.Agenda.full.Given as goal

abbrev pub invariant-loop-k : goal.invariant-loop-k
invariant-loop-k l = AreBelow l.queue.items l.on.items l.k
