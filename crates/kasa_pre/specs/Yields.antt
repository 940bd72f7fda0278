-- Rows that a rule yields from tables.
use Rattle.std.specs.Prelude.{List}
use Rattle.kasa_graph.specs.declared.pattern.Node.{Node}
use Rattle.kasa_graph.specs.Signature.{TypeEntry}
use Rattle.kasa_families.specs.declared.family.Family.{Family}
use Rattle.kasa_families.specs.declared.row.Row.{Row}
use Rattle.kasa_families.specs.Pattern.{row_pattern}
use Rattle.kasa_families.specs.Table.{Table}
use Rattle.kasa_rules.specs.Rule.{RuleParts}
use Rattle.kasa_pre.specs.declared.Stand.{Stand}
use Rattle.kasa_pre.specs.declared.FreedBy.{FreedBy}
use Rattle.kasa_pre.specs.Allowed.{IsAllowed}
use Rattle.kasa_pre.specs.Before.{AreFreed, IsBefore, IsMostGeneralBefore}

-- some pattern that the tables allow can have stood before the rule fired, where v stands afterwards
pub record YieldsPattern (sig : List TypeEntry) (tables : List Table) (r : RuleParts) (v : List Node) : Type 0 where
  pub stands : List Stand
  pub freed : List FreedBy
  pub pattern : List Node
  pub free : AreFreed r v stands freed
  pub before : IsBefore sig r v stands freed pattern
  pub allowed : IsAllowed sig tables pattern

-- for some stands and some list of freed tests there is a most general such pattern, and the tables allow it
pub record YieldsMostGeneral (sig : List TypeEntry) (tables : List Table) (r : RuleParts) (v : List Node) : Type 0 where
  pub stands : List Stand
  pub freed : List FreedBy
  pub pattern : List Node
  pub free : AreFreed r v stands freed
  pub most_general : IsMostGeneralBefore sig r v stands freed pattern
  pub allowed : IsAllowed sig tables pattern

-- the rule yields the row of the family
abbrev pub Yields : List TypeEntry → List Table → RuleParts → Family → Row → Type 0
Yields sig tables r family row = YieldsPattern sig tables r (row_pattern sig family row)
