-- Views among the families.
use Rattle.std.specs.Prelude.{⊤}
use Rattle.kasa_families.specs.declared.family.Family.{Family}
use Rattle.kasa_families.specs.declared.family.Family.TheVariants.{View}

-- the family is a view
abbrev pub IsView : Family → Type 0
IsView (View a sites) = ⊤
IsView _ = ⊥
