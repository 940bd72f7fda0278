use Rattle.std.proofs.Common.{◌↔◌, ◌⊎◌}
use Rattle.kasa_graph.specs.Lists.{Has}
use Rattle.kasa_pre.specs.declared.Stand.{Stand}
use Rattle.kasa_columns.specs.Stands.{IsMadeOf}
use Rattle.kasa_columns.proofs.Pushing.{FromUpto}
use Rattle.kasa_columns.proofs.stands.push_made.Given as goal

abbrev pub invariant-loop-k : goal.invariant-loop-k
invariant-loop-k l = (stand : Stand) → Has l.found.items stand ↔ (Has l.initial.found.items stand ⊎ FromUpto (IsMadeOf l.rule l.agent) l.k stand)
