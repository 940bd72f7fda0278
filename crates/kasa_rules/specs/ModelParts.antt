-- The parts of a model.
use Rattle.std.specs.Prelude.{ℕ, List, Option}
use Rattle.kasa_graph.specs.declared.mixture.Agent.{Agent}
use Rattle.kasa_graph.specs.Signature.{TypeEntry}
use Rattle.kasa_rules.specs.Rule.{RuleParts}

-- a signature, the complexes of inits and additions in text order, the numbers of the additions, from 1, and the rules
pub record ModelParts : Type 0 where
  pub sig : List TypeEntry
  pub inits : List (List (Option Agent))
  pub added : List ℕ
  pub rules : List RuleParts
