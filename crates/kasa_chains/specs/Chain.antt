-- Chains among the families.
use Rattle.std.specs.Prelude.{⊤}
use Rattle.kasa_families.specs.declared.family.Family.{Family}
use Rattle.kasa_families.specs.declared.family.Family.TheVariants.{Chain}

-- the family is a chain
abbrev pub IsChain : Family → Type 0
IsChain (Chain a x p b y z c w q) = ⊤
IsChain _ = ⊥
