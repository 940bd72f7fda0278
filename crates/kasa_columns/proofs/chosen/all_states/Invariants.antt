use Rattle.std.proofs.Common.{◌↔◌, ◌⊎◌, take}
use Rattle.kasa_graph.specs.Lists.{Has}
use Rattle.kasa_families.specs.declared.row.Local.{Local}
use Rattle.kasa_columns.specs.Stands.{AreFrom}
use Rattle.kasa_columns.proofs.ChosenLemmas.{IsStated}
use Rattle.kasa_columns.proofs.chosen.all_states.Given as goal

abbrev pub invariant-loop-state : goal.invariant-loop-state
invariant-loop-state l = (x : Local) → Has l.items.items x ↔ (Has l.initial.items.items x ⊎ AreFrom (IsStated l.links.items) (take l.state-index l.state-items) x)
