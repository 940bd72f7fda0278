use Rattle.std.proofs.Common.{◌↔◌, ◌⊎◌, take}
use Rattle.kasa_graph.specs.Lists.{Has}
use Rattle.kasa_families.specs.declared.row.Local.{Local}
use Rattle.kasa_families.specs.Table.{rows_of}
use Rattle.kasa_columns.specs.Stands.{AreFrom}
use Rattle.kasa_columns.specs.Chosen.{ListsAt}
use Rattle.kasa_columns.proofs.chosen.states_at.Given as goal

abbrev pub invariant-loop-k : goal.invariant-loop-k
invariant-loop-k g l = (x : Local) → Has l.items.items x ↔ (Has l.initial.items.items x ⊎ AreFrom (ListsAt l.place) (take l.k (rows_of l.search.tables l.f)) x)
