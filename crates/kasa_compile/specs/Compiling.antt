-- Declared complexes and rules while they are tried and compiled.
use Rattle.std.specs.Prelude.{◌≡◌, ◌≤◌, List, [], length, Option}
use Rattle.kasa_graph.specs.declared.mixture.Agent.{Agent}
use Rattle.kasa_graph.specs.Signature.{TypeEntry}
use Rattle.kasa_graph.specs.Mixture.{IsMixtureOver}
use Rattle.kasa_rules.specs.declared.model.Model.{Model}
use Rattle.kasa_rules.specs.Rule.{RuleParts, IsRuleOver, HasFewAgents}
use Rattle.kasa_rules.specs.Reached.{IsModel, IsWithinLimits}
use Rattle.kasa_compile.specs.declared.said.Pair.{Pair}
use Rattle.kasa_compile.specs.declared.causes.Tried.{Tried}
use Rattle.kasa_compile.specs.declared.compile.Compiled.{Compiled}
use Rattle.kasa_compile.specs.Sides.{sides_of}
use Rattle.kasa_compile.specs.BondIndex.{AreBondsOf}
use Rattle.kasa_compile.specs.Causes.{half_bonds, bad_rights}

-- the two sides of a rule, with their labels, that show no fault
pub record AreTried (pairs : List Pair) (t : Tried) : Type 0 where
  pub sides : t.sides ≡ sides_of pairs
  pub left : AreBondsOf t.sides.left t.left
  pub right : AreBondsOf t.sides.right t.right
  pub whole : half_bonds t.sides ≡ []
  pub good : bad_rights pairs ≡ []

-- a valid complex with few cells, and a valid rule with few agents
pub record IsSmallComplex (sig : List TypeEntry) (m : List (Option Agent)) : Type 0 where
  pub over : IsMixtureOver sig m
  pub few : length m ≤ 200

pub record IsSmallRule (sig : List TypeEntry) (r : RuleParts) : Type 0 where
  pub over : IsRuleOver sig r
  pub few : HasFewAgents r

-- what has been compiled, as a model
abbrev pub model_in : Compiled → Model
model_in c = record { sig = c.sig; inits = c.inits.items; added = c.added.items; rules = c.rules.items }

-- it is one, within its limits
abbrev pub IsWhole : Model → Type 0
IsWhole m = IsModel m × IsWithinLimits m
