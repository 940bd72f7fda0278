-- The mixtures that a model reaches.
use Rattle.std.specs.Prelude.{◌≡◌, ℕ, zero, suc, ◌≤◌, List, [], ◌∷◌, length, Option, Some, None, IsSome, slice_get}
use Rattle.std.specs.List.Sorted.{IsStrictlyIncreasing}
use Rattle.std.specs.Option.{option_map_or}
use Rattle.kasa_graph.specs.declared.mixture.Agent.{Agent}
use Rattle.kasa_graph.specs.Lists.{Has}
use Rattle.kasa_graph.specs.Mixture.{beside, IsMixtureOver}
use Rattle.kasa_graph.specs.Embedding.{IsEmbedding}
use Rattle.kasa_num.specs.declared.limits.TheConstants.{MAX_INITS, MAX_INIT_AGENTS, MAX_RULES}
use Rattle.kasa_rules.specs.declared.model.Model.{Model}
use Rattle.kasa_rules.specs.Rule.{RuleParts, IsRuleOver, HasFewAgents}
use Rattle.kasa_rules.specs.Firing.{fire}

-- the declared complex of a number, which counts from 1, as `added` has them
abbrev pub declared_complex : Model → ℕ → Option (List (Option Agent))
declared_complex model zero = None
declared_complex model (suc i) = slice_get model.inits i

-- the complex at this place of the declared ones, from 0, is an addition
abbrev pub IsAddition : Model → ℕ → Type 0
IsAddition model i = Has model.added (suc i)

-- one atomic step: the rule at this place of the rules, from 0, fires on these cells, or the addition of this number, from
-- 1, comes
pub data Event : Type 0 where
  fires : ℕ → List ℕ → Event
  adds : ℕ → Event

-- the model may go from one mixture to the next by the event: an addition puts one copy of its complex behind the cells
abbrev pub Step : Model → List (Option Agent) → Event → List (Option Agent) → Type 0
Step model m (fires k cells) next = (r : RuleParts) × (slice_get model.rules k ≡ Some r) × IsEmbedding r.left m cells × (next ≡ fire r cells m)
Step model m (adds n) next = Has model.added n × (k : List (Option Agent)) × (declared_complex model n ≡ Some k) × (next ≡ beside m k)

-- the events lead from one mixture to another, one step after another
abbrev pub Run : Model → List (Option Agent) → List Event → List (Option Agent) → Type 0
Run model m [] last = last ≡ m
Run model m (event ∷ events) last = (next : List (Option Agent)) × Step model m event next × Run model next events last

-- copies of the declared complexes at these places, from 0, side by side
abbrev pub copies_of : Model → List ℕ → List (Option Agent)
copies_of model [] = []
copies_of model (i ∷ is) = beside (option_map_or (λ m. m) (slice_get model.inits i) []) (copies_of model is)

-- some copies of inits that aren't additions lead to the mixture by some events
pub record Reached (model : Model) (m : List (Option Agent)) : Type 0 where
  pub copies : List ℕ
  pub no_additions : (i : ℕ) → Has copies i → ¬ IsAddition model i
  pub events : List Event
  pub run : Run model (copies_of model copies) events m

-- the complexes and the rules of a model are valid over its signature; the numbers of its additions ascend, and each has its
-- complex
pub record IsModel (model : Model) : Type 0 where
  pub inits : (i : ℕ) (m : List (Option Agent)) → slice_get model.inits i ≡ Some m → IsMixtureOver model.sig m
  pub rules : (k : ℕ) (r : RuleParts) → slice_get model.rules k ≡ Some r → IsRuleOver model.sig r
  pub ascending : IsStrictlyIncreasing model.added
  pub added : (n : ℕ) → Has model.added n → IsSome (declared_complex model n)

-- complexes, their cells and rules are within their limits
pub record IsWithinLimits (model : Model) : Type 0 where
  pub few_inits : length model.inits ≤ MAX_INITS
  pub few_cells : (i : ℕ) (m : List (Option Agent)) → slice_get model.inits i ≡ Some m → length m ≤ MAX_INIT_AGENTS
  pub few_rules : length model.rules ≤ MAX_RULES
  pub few_agents : (k : ℕ) (r : RuleParts) → slice_get model.rules k ≡ Some r → HasFewAgents r
