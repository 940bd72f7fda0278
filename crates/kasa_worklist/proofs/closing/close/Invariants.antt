use Rattle.std.proofs.Common.{◌≡◌, ◌≤◌, ◌+◌, length}
use Rattle.kasa_worklist.specs.Counts.{reader_count, weigh}
use Rattle.kasa_worklist.specs.Turn.{Grows, AreSettled, work_left}
use Rattle.kasa_worklist.proofs.closing.close.Given as goal

abbrev pub invariant-loop-agenda : goal.invariant-loop-agenda
invariant-loop-agenda g l = record {
  size : l.agenda.size ≡ (g.S.System.relations l.system).pairs;
  grows : Grows (g.S.System.relations l.system) l.fn.tables l.tables;
  settled : AreSettled (g.S.System.relations l.system) l.agenda.numbers l.tables;
  low : l.fn.steps + (g.S.System.relations l.system).pairs ≤ l.steps + length l.agenda.numbers;
  high : l.steps + length l.agenda.numbers ≤ l.fn.steps + (g.S.System.relations l.system).pairs + weigh (g.S.System.relations l.system) (reader_count (g.S.System.relations l.system)) l.tables;
}

abbrev pub decreases-loop-agenda : goal.decreases-loop-agenda
decreases-loop-agenda g l = work_left (g.S.System.relations l.system) l.agenda.numbers l.tables
