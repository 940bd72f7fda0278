-- On the way to the verdict: the first of some of the rows that tables lack.
use Rattle.std.specs.Prelude.{◌≡◌, ℕ, ◌⊎◌, List, Option, Some, None}
use Rattle.kasa_lists.specs.Lists.{Has}
use Rattle.kasa_families.specs.declared.row.Row.{Row}
use Rattle.kasa_families.specs.declared.rows.Origin.{Origin}
use Rattle.kasa_families.specs.declared.rows.Origin.TheVariants.{Init, Rule}
use Rattle.kasa_families.specs.declared.rows.Missing.{Missing}
use Rattle.kasa_families.specs.Row.{IsRowBelow}
use Rattle.kasa_families.specs.Table.{Table}
use Rattle.kasa_rules.specs.declared.model.Model.{Model}
use Rattle.kasa_check.specs.Lacked.{IsLacked, IsMissingBelow}

-- one of these is lacked and no other lacked one comes before it, or none of them is lacked
abbrev pub IsFirstOf : Model → List Table → (Missing → Type 0) → Option Missing → Type 0
IsFirstOf model tables P None = (m : Missing) → P m → ¬ IsLacked model tables m
IsFirstOf model tables P (Some m) = P m × IsLacked model tables m × ((other : Missing) → P other → IsLacked model tables other → (m ≡ other) ⊎ IsMissingBelow m other)

-- the row comes from a declared complex, from a rule, from this one, and is one of the family of a number
abbrev pub IsFromInit : Missing → Type 0
IsFromInit m = (n : ℕ) × (m.origin ≡ Init n)

abbrev pub IsFromRule : Missing → Type 0
IsFromRule m = (n : ℕ) × (m.origin ≡ Rule n)

abbrev pub IsFrom : Origin → Missing → Type 0
IsFrom origin m = m.origin ≡ origin

abbrev pub IsOf : Origin → ℕ → Missing → Type 0
IsOf origin f m = (m.origin ≡ origin) × (m.family ≡ f)

-- the least of the rows that isn't one of the stored ones, none where all are
abbrev pub IsLeastNew : List Row → List Row → Option Row → Type 0
IsLeastNew stored rows None = (row : Row) → Has rows row → Has stored row
IsLeastNew stored rows (Some row) = Has rows row × (¬ Has stored row) × ((other : Row) → Has rows other → ¬ Has stored other → (row ≡ other) ⊎ IsRowBelow row other)
