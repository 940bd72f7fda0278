use Rattle.std.proofs.Common.{◌↔◌, ◌⊎◌, List, take}
use Rattle.kasa_graph.specs.Lists.{Has}
use Rattle.kasa_families.specs.Family.{shape_of}
use Rattle.kasa_pre.specs.declared.Stand.{Stand}
use Rattle.kasa_columns.specs.Stands.{AreFrom, IsWith}
use Rattle.kasa_columns.proofs.stands.push_longer.Given as goal

abbrev pub invariant-loop-stand : goal.invariant-loop-stand
invariant-loop-stand l = (more : List Stand) → Has l.all.items more ↔ (Has l.initial.all.items more ⊎ AreFrom (IsWith l.rule (shape_of l.family).bonds l.first) (take l.stand-index l.next) more)
