use Rattle.std.proofs.Common.{◌↔◌, ◌⊎◌, take}
use Rattle.kasa_graph.specs.Lists.{Has}
use Rattle.kasa_families.specs.declared.row.Local.{Local}
use Rattle.kasa_columns.specs.Stands.{AreFrom}
use Rattle.kasa_columns.proofs.ChosenLemmas.{IsLinked}
use Rattle.kasa_columns.proofs.chosen.push_linked.Given as goal

abbrev pub invariant-loop-link : goal.invariant-loop-link
invariant-loop-link l = (x : Local) → Has l.items.items x ↔ (Has l.initial.items.items x ⊎ AreFrom (IsLinked l.state) (take l.link-index l.links) x)
