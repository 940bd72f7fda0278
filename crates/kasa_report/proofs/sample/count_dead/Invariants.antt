use Rattle.std.proofs.Common.{◌≤◌, take}
use Rattle.kasa_report.proofs.DeadLemmas.{AreCounted}
use Rattle.kasa_report.proofs.sample.count_dead.Given as goal

abbrev pub invariant-loop-k : goal.invariant-loop-k
invariant-loop-k g l = record {
  counted : AreCounted l.sig (g.R.Rows.tables l.rows) (take l.k l.rules) l.count;
  few : l.count ≤ l.k;
}
