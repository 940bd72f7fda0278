use Rattle.std.proofs.Common.{◌↔◌, List, drop}
use Rattle.kasa_graph.specs.Lists.{Has}
use Rattle.kasa_families.specs.declared.row.Local.{Local}
use Rattle.kasa_columns.specs.Chosen.{AreAmong}
use Rattle.kasa_columns.proofs.chosen.chosen.Given as goal

abbrev pub invariant-loop-k : goal.invariant-loop-k
invariant-loop-k l = (shown : List Local) → Has l.all.items shown ↔ AreAmong l.stands (drop l.k l.columns) (drop l.k l.choices) shown
