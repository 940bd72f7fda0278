-- A view has columns.
use Rattle.kasa_families.specs.declared.family.Family.{Family}
use Rattle.kasa_families.specs.declared.family.Family.TheVariants.{View}
use Rattle.kasa_columns.specs.Forward.{HasColumns}
use Rattle.kasa_views.specs.View.{IsView}

pub HasColumns-kind : (family : Family) → IsView family → HasColumns family
HasColumns-kind (View a sites) is = tt
HasColumns-kind _ is = absurd is
