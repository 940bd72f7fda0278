use Rattle.std.proofs.Common.{◌≡◌, ◌↔◌, ◌⊎◌, ℕ, List, take}
use Rattle.kasa_graph.specs.Lists.{Has}
use Rattle.kasa_families.specs.declared.row.Row.{Row}
use Rattle.kasa_columns.specs.Seen.{row_in}
use Rattle.kasa_columns.specs.Stands.{AreFrom}
use Rattle.kasa_columns.proofs.seen.initial.Given as goal

abbrev pub invariant-loop-cells : goal.invariant-loop-cells
invariant-loop-cells l = (row : Row) → Has l.rows.items row ↔ (Has l.initial.rows.items row ⊎ AreFrom (λ (cells : List ℕ) (x : Row). x ≡ row_in l.init l.columns.items cells) (take l.cells-index l.cells-items) row)
