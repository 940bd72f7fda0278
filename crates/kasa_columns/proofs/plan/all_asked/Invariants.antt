use Rattle.kasa_graph.specs.Lists.{Has}
use Rattle.kasa_columns.specs.declared.plan.Asked.{Asked}
use Rattle.kasa_columns.specs.Plan.{IsAskedAt}
use Rattle.kasa_columns.proofs.plan.all_asked.Given as goal

abbrev pub invariant-loop-k : goal.invariant-loop-k
invariant-loop-k l = (q : Asked) → Has l.asked.items q → IsAskedAt l.rule l.stands l.columns q
