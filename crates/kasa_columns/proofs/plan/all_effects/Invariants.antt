use Rattle.std.proofs.Common.{take}
use Rattle.kasa_columns.specs.Plan.{AreEffects}
use Rattle.kasa_columns.proofs.plan.all_effects.Given as goal

abbrev pub invariant-loop-k : goal.invariant-loop-k
invariant-loop-k l = AreEffects l.rule l.stands (take l.k l.columns) l.effects.items
