-- Patterns that tables allow.
use Rattle.std.specs.Prelude.{ℕ, List}
use Rattle.kasa_graph.specs.declared.pattern.Node.{Node}
use Rattle.kasa_graph.specs.Signature.{TypeEntry}
use Rattle.kasa_graph.specs.Lists.{Has}
use Rattle.kasa_families.specs.declared.family.Family.{Family}
use Rattle.kasa_families.specs.declared.row.Row.{Row}
use Rattle.kasa_families.specs.Family.{root}
use Rattle.kasa_families.specs.Table.{Table, Holds, families_of}
use Rattle.kasa_rules.specs.Rule.{RuleParts}
use Rattle.kasa_pre.specs.Place.{IsPlace}
use Rattle.kasa_pre.specs.Compatible.{IsCompatible}

-- some row that the tables hold of the family is compatible with g at the place
abbrev pub HasCompatible : List Table → List Node → Family → List ℕ → Type 0
HasCompatible tables g family place = (row : Row) × Holds tables family row × IsCompatible g family place row

-- at each place of each family's root, some row is compatible
abbrev pub IsAllowed : List TypeEntry → List Table → List Node → Type 0
IsAllowed sig tables g = (family : Family) → Has (families_of tables) family → (place : List ℕ) → IsPlace (root sig family) g place → HasCompatible tables g family place

-- the left pattern of a rule isn't allowed
abbrev pub IsDead : List TypeEntry → List Table → RuleParts → Type 0
IsDead sig tables r = ¬ IsAllowed sig tables r.left
