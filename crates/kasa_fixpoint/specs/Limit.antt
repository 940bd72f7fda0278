-- Families whose closed tables have too many rows.
use Rattle.std.specs.Prelude.{◌≡◌, ℕ, ◌<◌, List}
use Rattle.kasa_families.specs.declared.family.Family.{Family}
use Rattle.kasa_families.specs.Table.{Table, AreTables, families_of}
use Rattle.kasa_rules.specs.declared.model.Model.{Model}
use Rattle.kasa_pre.specs.Closed.{IsClosed}
use Rattle.kasa_tables.specs.Insert.{row_count}

-- all closed tables of these families have more than so many rows
abbrev pub PassesLimit : ℕ → Model → List Family → Type 0
PassesLimit most model families = (tables : List Table) → AreTables model.sig tables → families_of tables ≡ families → IsClosed model tables → most < row_count tables
