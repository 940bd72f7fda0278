-- Which families a rule reads when it yields rows of a family.
use Rattle.std.specs.Prelude.{◌≡◌, ℕ, ◌⊎◌, List, Some, slice_get}
use Rattle.kasa_graph.specs.Lists.{Has}
use Rattle.kasa_graph.specs.Pattern.{types_of}
use Rattle.kasa_families.specs.declared.family.Family.{Family}
use Rattle.kasa_families.specs.declared.row.Row.{Row}
use Rattle.kasa_families.specs.Family.{family_types}
use Rattle.kasa_families.specs.Table.{Table, Holds}
use Rattle.kasa_rules.specs.Rule.{RuleParts}

-- a left node of the rule, or a node of the family's patterns, has the type
abbrev pub ReadsType : RuleParts → Family → ℕ → Type 0
ReadsType r family a = Has (types_of r.left) a ⊎ Has (family_types family) a

-- the first node of the other family's root has such a type
abbrev pub ReadsFamily : RuleParts → Family → Family → Type 0
ReadsFamily r family other = (a : ℕ) × (slice_get (family_types other) 0 ≡ Some a) × ReadsType r family a

-- what the second tables hold of the families that are read, the first ones hold
abbrev pub IsReadWithin : List Table → List Table → RuleParts → Family → Type 0
IsReadWithin first second r family =
    (other : Family) → ReadsFamily r family other → (row : Row) → Holds second other row → Holds first other row
