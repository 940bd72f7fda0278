use Rattle.std.proofs.Common.{take}
use Rattle.kasa_report.proofs.ShownLemmas.{AreWritten}
use Rattle.kasa_report.proofs.lemmas.write_tables.Given as goal

abbrev pub invariant-loop-f : goal.invariant-loop-f
invariant-loop-f g l = AreWritten l.sig (take l.f (g.R.Rows.tables l.rows)) l.initial.out.items l.out.items
