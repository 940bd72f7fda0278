-- An across family has columns.
use Rattle.kasa_families.specs.declared.family.Family.{Family}
use Rattle.kasa_families.specs.declared.family.Family.TheVariants.{View, Across, Parallel, Chain}
use Rattle.kasa_columns.specs.Forward.{HasColumns}
use Rattle.kasa_across.specs.Across.{IsAcross}

pub HasColumns-kind : (family : Family) → IsAcross family → HasColumns family
HasColumns-kind (Across a x p b y q) is = tt
HasColumns-kind _ is = absurd is
