use Rattle.std.specs.Prelude.{⊤}
use Rattle.kasa_columns.proofs.plan.meets_all.Given as goal

abbrev pub invariant-loop-ask : goal.invariant-loop-ask
invariant-loop-ask l = ⊤
