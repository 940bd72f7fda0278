use Rattle.std.proofs.Common.{◌≤◌, length}
use Rattle.kasa_report.proofs.MixedLemmas.{AreMixed}
use Rattle.kasa_report.proofs.product.is_full.Given as goal

abbrev pub invariant-loop-k : goal.invariant-loop-k
invariant-loop-k l = record {
  mixed : AreMixed l.rows l.k l.mixed;
  few : l.mixed ≤ length l.rows;
}
