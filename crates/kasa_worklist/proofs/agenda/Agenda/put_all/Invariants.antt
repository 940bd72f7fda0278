use Rattle.std.proofs.Common.{take}
use Rattle.kasa_worklist.specs.Agenda.{Puts}
use Rattle.kasa_worklist.proofs.agenda.Agenda.put_all.Given as goal

abbrev pub invariant-loop-k : goal.invariant-loop-k
invariant-loop-k l = Puts (take l.k-index l.numbers) l.initial.self l.self
