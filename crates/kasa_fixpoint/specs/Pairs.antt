-- Pairs of a rule and a family on which it acts.
use Rattle.std.specs.Prelude.{◌≡◌, ℕ, ◌+◌, ◌*◌, ◌<◌, ◌≤◌, ◌⊎◌, ◌↔◌, List, Some, length, slice_get}
use Rattle.kasa_lists.specs.Lists.{Has, AllDifferent}
use Rattle.kasa_families.specs.declared.family.Family.{Family}
use Rattle.kasa_rules.specs.declared.model.Model.{Model}
use Rattle.kasa_rules.specs.Rule.{RuleParts}
use Rattle.kasa_pre.specs.Acts.{ActsOn}
use Rattle.kasa_fixpoint.specs.declared.pairs.Pair.{Pair}

-- the rule and the family of a pair
pub record IsPairOf (model : Model) (families : List Family) (pair : Pair) (r : RuleParts) (family : Family) : Type 0 where
  pub ruled : slice_get model.rules pair.rule ≡ Some r
  pub named : slice_get families pair.family ≡ Some family

-- the rule acts on the family
abbrev pub IsActing : Model → List Family → Pair → Type 0
IsActing model families pair = (r : RuleParts) × (family : Family) × IsPairOf model families pair r family × ActsOn r family

-- all such pairs, each once
pub record AreActingPairs (model : Model) (families : List Family) (pairs : List Pair) : Type 0 where
  pub different : AllDifferent pairs
  pub exact : (pair : Pair) → Has pairs pair ↔ IsActing model families pair

-- ---- on the way to them

-- the pair comes before another, rules first and then families
abbrev pub IsPairBefore : Pair → ℕ → ℕ → Type 0
IsPairBefore pair k f = (pair.rule < k) ⊎ ((pair.rule ≡ k) × (pair.family < f))

-- all that come before, each once
pub record AreActingBefore (model : Model) (families : List Family) (k f : ℕ) (pairs : List Pair) : Type 0 where
  pub different : AllDifferent pairs
  pub acting : (pair : Pair) → Has pairs pair → IsActing model families pair × IsPairBefore pair k f
  pub all : (pair : Pair) → IsActing model families pair → IsPairBefore pair k f → Has pairs pair
  pub few : length pairs ≤ k * length families + f
