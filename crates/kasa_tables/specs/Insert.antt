-- Tables without rows, and tables with one row more.
use Rattle.std.specs.Prelude.{ℕ, List, [], ◌∷◌, ◌++◌, length, map}
use Rattle.std.specs.List.{sum_by}
use Rattle.kasa_graph.specs.Lists.{update}
use Rattle.kasa_families.specs.declared.family.Family.{Family}
use Rattle.kasa_families.specs.declared.row.Row.{Row}
use Rattle.kasa_families.specs.Table.{Table}

-- a family without rows
abbrev pub empty_table : Family → Table
empty_table family = record { family = family; rows = [] }

-- families without rows
abbrev pub empty_tables : List Family → List Table
empty_tables families = map empty_table families

-- a table with a row behind the ones that it has
abbrev pub with_last : Row → Table → Table
with_last row t = record { family = t.family; rows = t.rows ++ row ∷ [] }

-- tables with a row behind the ones that the family of a number has
abbrev pub with_row : List Table → ℕ → Row → List Table
with_row tables f row = update tables f (with_last row)

-- how many rows there are in all
abbrev pub row_count : List Table → ℕ
row_count tables = sum_by (λ t. length t.rows) tables
