-- The verdict on polymers: the bound, or a cycle of the step graph where there is none.
use Rattle.std.specs.Prelude.{ℕ, ◌^◌, ◌<◌, ◌≤◌, ⊤, List, Option}
use Rattle.kasa_graph.specs.declared.mixture.Agent.{Agent}
use Rattle.kasa_rules.specs.declared.model.Model.{Model}
use Rattle.kasa_rules.specs.Reached.{Reached}
use Rattle.kasa_families.specs.Table.{Table}
use Rattle.kasa_polymers.specs.declared.map.Polymers.{Polymers}
use Rattle.kasa_polymers.specs.declared.map.Polymers.TheVariants.{AtMost, Beyond, Cycle}
use Rattle.kasa_polymers.specs.Species.{AllSpeciesWithin}
use Rattle.kasa_polymers.specs.StepGraph.{IsBound, IsFirstCycle}

-- the bound where it fits 64 bits, that it doesn't, or the first cycle
abbrev pub IsVerdict : Model → List Table → Polymers → Type 0
IsVerdict model tables (AtMost n) = IsBound model tables n × (n < 2 ^ 64)
IsVerdict model tables Beyond = (n : ℕ) × IsBound model tables n × (2 ^ 64 ≤ n)
IsVerdict model tables (Cycle walk) = IsFirstCycle model tables walk

-- no species of the mixture has more cells than the verdict says
abbrev pub BoundsSpecies : Polymers → List (Option Agent) → Type 0
BoundsSpecies (AtMost n) m = AllSpeciesWithin m n
BoundsSpecies _ m = ⊤

-- none of a mixture that the model reaches has more
abbrev pub BoundsReached : Model → Polymers → Type 0
BoundsReached model verdict = (m : List (Option Agent)) → Reached model m → BoundsSpecies verdict m
