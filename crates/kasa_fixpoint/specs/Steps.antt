-- On the way to the least closed tables: what is held is held by all closed tables.
use Rattle.std.specs.Prelude.{◌≡◌, List, Option}
use Rattle.kasa_graph.specs.declared.mixture.Agent.{Agent}
use Rattle.kasa_graph.specs.Signature.{TypeEntry}
use Rattle.kasa_lists.specs.Lists.{Has}
use Rattle.kasa_families.specs.declared.family.Family.{Family}
use Rattle.kasa_families.specs.declared.row.Row.{Row}
use Rattle.kasa_families.specs.Row.{IsRow}
use Rattle.kasa_families.specs.Pattern.{Occurs}
use Rattle.kasa_families.specs.Table.{Table, AreTables, families_of, Holds, IsWithin}
use Rattle.kasa_rules.specs.declared.model.Model.{Model}
use Rattle.kasa_pre.specs.Closed.{IsInitial, IsClosed}
use Rattle.kasa_fixpoint.specs.Growing.{HasRoomForRows, HaveRowsOf}

-- valid rows of a family, each initial
abbrev pub AreDue : Model → Family → List Row → Type 0
AreDue model family rows = (row : Row) → Has rows row → IsRow model.sig family row × IsInitial model family row

-- tables with no row that some closed tables of these families don't hold
pub record IsUnderWay (model : Model) (tables : List Table) : Type 0 where
  pub has_room : HasRoomForRows tables
  pub are_tables : AreTables model.sig tables
  pub forced : (others : List Table) → AreTables model.sig others → families_of others ≡ families_of tables → IsClosed model others → IsWithin tables others

-- from such tables to more rows of the same families
pub record IsStep (model : Model) (old new : List Table) : Type 0 where
  pub under_way : IsUnderWay model new
  pub families : families_of new ≡ families_of old
  pub kept : HaveRowsOf old new

-- the tables hold the family's rows that occur in a mixture
abbrev pub HoldsOccurring : List TypeEntry → List Table → Family → List (Option Agent) → Type 0
HoldsOccurring sig tables family m = (row : Row) → IsRow sig family row → Occurs sig family row m → Holds tables family row
