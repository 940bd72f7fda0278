use Rattle.std.proofs.Common.{take}
use Rattle.kasa_report.proofs.DeadLemmas.{AreWritten}
use Rattle.kasa_report.proofs.dead.write_rules.Given as goal

abbrev pub invariant-loop-k : goal.invariant-loop-k
invariant-loop-k g l = AreWritten l.sig (g.R.Rows.tables l.rows) (take l.k l.rules) l.initial.out.items l.out.items
