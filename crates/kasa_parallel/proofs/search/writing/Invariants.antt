use Rattle.std.proofs.Common.{◌↔◌, ◌⊎◌, take}
use Rattle.kasa_graph.specs.Lists.{Has}
use Rattle.kasa_pre.specs.declared.Stand.{Stand}
use Rattle.kasa_columns.specs.Stands.{AreFrom}
use Rattle.kasa_parallel.specs.Partners.{WritesPartner}
use Rattle.kasa_parallel.proofs.StandLists.{Takes}
use Rattle.kasa_parallel.proofs.search.writing.Given as goal

abbrev pub invariant-loop-stand : goal.invariant-loop-stand
invariant-loop-stand g l = (z : Stand) → Has l.firsts.items z ↔ (Has l.initial.firsts.items z ⊎ AreFrom (Takes (WritesPartner l.search.rule l.search.x l.search.u)) (take l.stand-index l.all) z)
