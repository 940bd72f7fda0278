use Rattle.std.proofs.Common.{◌↔◌, ◌⊎◌, List, take}
use Rattle.kasa_graph.specs.Lists.{Has}
use Rattle.kasa_families.specs.declared.row.Local.{Local}
use Rattle.kasa_columns.specs.Stands.{AreFrom}
use Rattle.kasa_columns.specs.Chosen.{IsConsOf}
use Rattle.kasa_columns.proofs.chosen.push_in_front.Given as goal

abbrev pub invariant-loop-shown : goal.invariant-loop-shown
invariant-loop-shown l = (more : List Local) → Has l.all.items more ↔ (Has l.initial.all.items more ⊎ AreFrom (IsConsOf l.local) (take l.shown-index l.rest) more)
