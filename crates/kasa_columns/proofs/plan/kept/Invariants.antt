use Rattle.std.proofs.Common.{◌≡◌, length}
use Rattle.kasa_columns.proofs.PlanLemmas.{AreAfterUpto}
use Rattle.kasa_columns.proofs.plan.kept.Given as goal

abbrev pub invariant-loop-k : goal.invariant-loop-k
invariant-loop-k l = record {
  long : length l.locals ≡ 16;
  after : AreAfterUpto l.k l.effects l.shown l.locals;
}
