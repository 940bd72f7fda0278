-- Across families among the families.
use Rattle.std.specs.Prelude.{⊤}
use Rattle.kasa_families.specs.declared.family.Family.{Family}
use Rattle.kasa_families.specs.declared.family.Family.TheVariants.{Across}

-- the family is an across family
abbrev pub IsAcross : Family → Type 0
IsAcross (Across a x p b y q) = ⊤
IsAcross _ = ⊥
