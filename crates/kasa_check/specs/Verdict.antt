-- Whether tables are closed, and the first row that they lack where they aren't.
use Rattle.std.specs.Prelude.{◌≡◌, ◌⊎◌, List}
use Rattle.kasa_families.specs.declared.rows.Missing.{Missing}
use Rattle.kasa_families.specs.declared.rows.Verdict.{Verdict}
use Rattle.kasa_families.specs.declared.rows.Verdict.TheVariants as verdict
use Rattle.kasa_families.specs.Table.{Table}
use Rattle.kasa_rules.specs.declared.model.Model.{Model}
use Rattle.kasa_pre.specs.Closed.{IsClosed}
use Rattle.kasa_check.specs.Lacked.{IsLacked, IsMissingBelow}

-- lacked, and no other lacked row comes before it
abbrev pub IsFirstLacked : Model → List Table → Missing → Type 0
IsFirstLacked model tables m = IsLacked model tables m × ((other : Missing) → IsLacked model tables other → (m ≡ other) ⊎ IsMissingBelow m other)

-- closed, or else the first row that is lacked
abbrev pub IsVerdict : Model → List Table → Verdict → Type 0
IsVerdict model tables verdict.Closed = IsClosed model tables
IsVerdict model tables (verdict.Missing m) = IsFirstLacked model tables m
