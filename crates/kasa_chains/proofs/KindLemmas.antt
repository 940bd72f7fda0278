-- A chain has columns.
use Rattle.kasa_families.specs.declared.family.Family.{Family}
use Rattle.kasa_families.specs.declared.family.Family.TheVariants.{View, Across, Parallel, Chain}
use Rattle.kasa_columns.specs.Forward.{HasColumns}
use Rattle.kasa_chains.specs.Chain.{IsChain}

pub HasColumns-kind : (family : Family) → IsChain family → HasColumns family
HasColumns-kind (Chain a x p b y z c w q) is = tt
HasColumns-kind _ is = absurd is
