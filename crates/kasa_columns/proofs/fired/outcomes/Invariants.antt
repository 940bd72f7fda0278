use Rattle.std.proofs.Common.{drop}
use Rattle.kasa_columns.proofs.OutcomeLemmas.{AreOutcomes}
use Rattle.kasa_columns.proofs.fired.outcomes.Given as goal

abbrev pub invariant-loop-k : goal.invariant-loop-k
invariant-loop-k l = AreOutcomes l.rule l.stands (drop l.k l.columns) (drop l.k l.shown) l.outs.items
