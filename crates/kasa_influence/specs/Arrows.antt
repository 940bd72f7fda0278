-- Arrows: the pairs of rules of which the first may make, or stop, embeddings of the second's left pattern.
use Rattle.std.specs.Prelude.{◌≡◌, ◌<◌, ◌⊎◌, ℕ, List, Option, Some, slice_get}
use Rattle.kasa_graph.specs.declared.mixture.Agent.{Agent}
use Rattle.kasa_graph.specs.Lists.{Has}
use Rattle.kasa_graph.specs.Embedding.{IsEmbedding}
use Rattle.kasa_rules.specs.declared.model.Model.{Model}
use Rattle.kasa_rules.specs.Rule.{RuleParts}
use Rattle.kasa_rules.specs.Firing.{fire}
use Rattle.kasa_rules.specs.Reached.{Reached}
use Rattle.kasa_families.specs.Table.{Table}
use Rattle.kasa_influence.specs.declared.map.Arrow.{Arrow}
use Rattle.kasa_influence.specs.Gain.{Gains}
use Rattle.kasa_influence.specs.Loss.{Loses}

-- the arrow leads from one rule of the model to another
abbrev pub Leads : Model → Arrow → RuleParts → RuleParts → Type 0
Leads model arrow r r2 = (slice_get model.rules arrow.from ≡ Some r) × (slice_get model.rules arrow.to ≡ Some r2)

abbrev pub IsGain : Model → List Table → Arrow → Type 0
IsGain model tables arrow = (r r2 : RuleParts) × Leads model arrow r r2 × Gains model.sig tables r r2

abbrev pub IsLoss : Model → List Table → Arrow → Type 0
IsLoss model tables arrow = (r r2 : RuleParts) × Leads model arrow r r2 × Loses model.sig tables r r2

-- by the first rule, then the second
abbrev pub IsArrowBelow : Arrow → Arrow → Type 0
IsArrowBelow a b = (a.from < b.from) ⊎ ((a.from ≡ b.from) × (a.to < b.to))

-- ---- what a left-out arrow means

-- no firing of r in a reached mixture makes cells an embedding of r2's left pattern that were none
abbrev pub MakesNone : Model → RuleParts → RuleParts → Type 0
MakesNone model r r2 = (m : List (Option Agent)) (cells others : List ℕ) → Reached model m → IsEmbedding r.left m cells → IsEmbedding r2.left (fire r cells m) others → IsEmbedding r2.left m others

-- none stops cells being one
abbrev pub StopsNone : Model → RuleParts → RuleParts → Type 0
StopsNone model r r2 = (m : List (Option Agent)) (cells others : List ℕ) → Reached model m → IsEmbedding r.left m cells → IsEmbedding r2.left m others → IsEmbedding r2.left (fire r cells m) others

-- so it is for each positive arrow that isn't listed, and for each negative one
abbrev pub OthersMakeNone : Model → List Arrow → Type 0
OthersMakeNone model arrows = (arrow : Arrow) (r r2 : RuleParts) → Leads model arrow r r2 → ¬ Has arrows arrow → MakesNone model r r2

abbrev pub OthersStopNone : Model → List Arrow → Type 0
OthersStopNone model arrows = (arrow : Arrow) (r r2 : RuleParts) → Leads model arrow r r2 → ¬ Has arrows arrow → StopsNone model r r2
