use Rattle.std.proofs.Common.{◌↔◌, ◌⊎◌}
use Rattle.kasa_graph.specs.Lists.{Has}
use Rattle.kasa_pre.specs.declared.Stand.{Stand}
use Rattle.kasa_columns.specs.Stands.{IsLeftOf}
use Rattle.kasa_columns.proofs.Pushing.{FromUpto}
use Rattle.kasa_columns.proofs.stands.push_left.Given as goal

abbrev pub invariant-loop-n : goal.invariant-loop-n
invariant-loop-n l = (stand : Stand) → Has l.found.items stand ↔ (Has l.initial.found.items stand ⊎ FromUpto (IsLeftOf l.rule l.agent) l.n stand)
