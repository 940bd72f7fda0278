use Rattle.std.proofs.Common.{◌↔◌, ◌⊎◌, List, take}
use Rattle.kasa_graph.specs.Lists.{Has}
use Rattle.kasa_families.specs.declared.row.Local.{Local}
use Rattle.kasa_columns.specs.Stands.{AreFrom}
use Rattle.kasa_columns.specs.Chosen.{IsInFront}
use Rattle.kasa_columns.proofs.chosen.with_column.Given as goal

abbrev pub invariant-loop-local : goal.invariant-loop-local
invariant-loop-local l = (shown : List Local) → Has l.all.items shown ↔ (Has l.initial.all.items shown ⊎ AreFrom (IsInFront l.rest) (take l.local-index l.states) shown)
