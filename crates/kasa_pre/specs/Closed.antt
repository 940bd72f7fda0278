-- Closed and least tables, and what their lemmas say.
use Rattle.std.specs.Prelude.{◌≡◌, ℕ, ◌⊎◌, List, Option, Some, slice_get}
use Rattle.kasa_graph.specs.declared.mixture.Agent.{Agent}
use Rattle.kasa_graph.specs.Signature.{TypeEntry}
use Rattle.kasa_graph.specs.Lists.{Has}
use Rattle.kasa_graph.specs.Embedding.{IsEmbedding}
use Rattle.kasa_families.specs.declared.family.Family.{Family}
use Rattle.kasa_families.specs.declared.row.Row.{Row}
use Rattle.kasa_families.specs.Family.{root}
use Rattle.kasa_families.specs.Row.{IsRow}
use Rattle.kasa_families.specs.Pattern.{Occurs, Extends}
use Rattle.kasa_families.specs.Table.{Table, AreTables, families_of, Holds, IsWithin}
use Rattle.kasa_rules.specs.declared.model.Model.{Model}
use Rattle.kasa_rules.specs.Rule.{RuleParts}
use Rattle.kasa_pre.specs.Yields.{Yields}

-- the row occurs in one copy of a declared complex, that of an init or of an addition alike
abbrev pub IsInitial : Model → Family → Row → Type 0
IsInitial model family row = (i : ℕ) × (m : List (Option Agent)) × (slice_get model.inits i ≡ Some m) × Occurs model.sig family row m

-- some rule yields the row from the tables
abbrev pub IsYielded : Model → List Table → Family → Row → Type 0
IsYielded model tables family row = (k : ℕ) × (r : RuleParts) × (slice_get model.rules k ≡ Some r) × Yields model.sig tables r family row

-- the tables have each valid row of their families that is initial or yielded
abbrev pub IsClosed : Model → List Table → Type 0
IsClosed model tables = (family : Family) → Has (families_of tables) family → (row : Row) → IsRow model.sig family row → IsInitial model family row ⊎ IsYielded model tables family row → Holds tables family row

-- closed, and within all closed tables of the same families
pub record IsLeast (model : Model) (tables : List Table) : Type 0 where
  pub closed : IsClosed model tables
  pub least : (others : List Table) → AreTables model.sig others → families_of others ≡ families_of tables → IsClosed model others → IsWithin tables others

-- each embedding of the family's root extends to one of a row that the tables hold
abbrev pub LemmaHolds : List TypeEntry → List Table → Family → List (Option Agent) → Type 0
LemmaHolds sig tables family m = (cells : List ℕ) → IsEmbedding (root sig family) m cells → (row : Row) × Holds tables family row × Extends sig family row m cells

-- the tables hold every valid row of their families that occurs in the mixture
abbrev pub Cover : List TypeEntry → List Table → List (Option Agent) → Type 0
Cover sig tables m = (family : Family) → Has (families_of tables) family → (row : Row) → IsRow sig family row → Occurs sig family row m → Holds tables family row
