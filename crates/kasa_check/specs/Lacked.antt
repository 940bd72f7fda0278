-- Rows that closed tables would have and that some tables lack, and their order.
use Rattle.std.specs.Prelude.{◌≡◌, ℕ, zero, suc, ◌<◌, ⊤, ◌⊎◌, ◌↔◌, List, Option, Some, None, slice_get}
use Rattle.kasa_graph.specs.declared.mixture.Agent.{Agent}
use Rattle.kasa_lists.specs.Lists.{Has}
use Rattle.kasa_families.specs.declared.family.Family.{Family}
use Rattle.kasa_families.specs.declared.row.Row.{Row}
use Rattle.kasa_families.specs.declared.rows.Origin.{Origin}
use Rattle.kasa_families.specs.declared.rows.Origin.TheVariants.{Init, Rule}
use Rattle.kasa_families.specs.declared.rows.Missing.{Missing}
use Rattle.kasa_families.specs.Row.{IsRow, IsRowBelow}
use Rattle.kasa_families.specs.Pattern.{Occurs}
use Rattle.kasa_families.specs.Table.{Table, families_of, Holds}
use Rattle.kasa_rules.specs.declared.model.Model.{Model}
use Rattle.kasa_rules.specs.Rule.{RuleParts}
use Rattle.kasa_rules.specs.Reached.{declared_complex}
use Rattle.kasa_pre.specs.Yields.{Yields}

-- the rule of a number, which counts from 1
abbrev pub rule_of : Model → ℕ → Option RuleParts
rule_of model zero = None
rule_of model (suc k) = slice_get model.rules k

-- the row occurs in one copy of the declared complex, or the rule yields it from the tables
abbrev pub Gives : Model → List Table → Origin → Family → Row → Type 0
Gives model tables (Init n) family row = (k : List (Option Agent)) × (declared_complex model n ≡ Some k) × Occurs model.sig family row k
Gives model tables (Rule n) family row = (r : RuleParts) × (rule_of model n ≡ Some r) × Yields model.sig tables r family row

-- the rows are the valid ones of the family that the declared complex or the rule gives
abbrev pub AreGiven : Model → List Table → Origin → Family → List Row → Type 0
AreGiven model tables origin family rows = (row : Row) → Has rows row ↔ (IsRow model.sig family row × Gives model tables origin family row)

-- a valid row of a family of the tables, which a declared complex or a rule gives, and which they don't hold
pub record IsLacked (model : Model) (tables : List Table) (m : Missing) : Type 0 where
  pub of_family : Family
  pub numbered : slice_get (families_of tables) m.family ≡ Some of_family
  pub valid : IsRow model.sig of_family m.row
  pub given : Gives model tables m.origin of_family m.row
  pub not_held : ¬ Holds tables of_family m.row

-- declared complexes in order, and then rules in order
abbrev pub IsOriginBelow : Origin → Origin → Type 0
IsOriginBelow (Init i) (Init j) = i < j
IsOriginBelow (Init i) (Rule k) = ⊤
IsOriginBelow (Rule k) (Rule l) = k < l
IsOriginBelow (Rule k) (Init i) = ⊥

-- families in order, and within a family row order
abbrev pub IsBelowWithin : Missing → Missing → Type 0
IsBelowWithin m n = (m.family < n.family) ⊎ ((m.family ≡ n.family) × IsRowBelow m.row n.row)

-- by the origin, and within an origin so
abbrev pub IsMissingBelow : Missing → Missing → Type 0
IsMissingBelow m n = IsOriginBelow m.origin n.origin ⊎ ((m.origin ≡ n.origin) × IsBelowWithin m n)
