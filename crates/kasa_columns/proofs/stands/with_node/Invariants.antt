use Rattle.std.proofs.Common.{◌↔◌, ◌⊎◌, List, take}
use Rattle.kasa_graph.specs.Lists.{Has}
use Rattle.kasa_families.specs.Family.{shape_of}
use Rattle.kasa_pre.specs.declared.Stand.{Stand}
use Rattle.kasa_columns.specs.Stands.{AreFrom, IsLonger}
use Rattle.kasa_columns.proofs.stands.with_node.Given as goal

abbrev pub invariant-loop-first : goal.invariant-loop-first
invariant-loop-first l = (more : List Stand) → Has l.all.items more ↔ (Has l.initial.all.items more ⊎ AreFrom (IsLonger l.rule (shape_of l.family).bonds l.next) (take l.first-index l.firsts) more)
