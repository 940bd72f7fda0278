-- What is asked: what a rule may make or stop, where the tables tell which patterns can be there.
use Rattle.std.specs.Prelude.{◌≡◌, ℕ, ◌↔◌, ◌≤◌, true, List, length}
use Rattle.kasa_graph.specs.Signature.{TypeEntry}
use Rattle.kasa_graph.specs.declared.pattern.Node.{Node}
use Rattle.kasa_graph.specs.Lists.{Has}
use Rattle.kasa_graph.specs.Pattern.{link_test, HasNodeSite, IsNoBond, IsPatternOver}
use Rattle.kasa_families.specs.declared.shape.NodeSite.{NodeSite}
use Rattle.kasa_families.specs.Table.{Table, AreTables}
use Rattle.kasa_rules.specs.Rule.{RuleParts, touched, IsRuleOver}
use Rattle.kasa_pre.specs.Acts.{LeavesOpen}

pub record Asked : Type 0 where
  pub sig : List TypeEntry
  pub tables : List Table
  pub rule : RuleParts
  pub open_sites : List NodeSite

-- the rule touches a left site that may have any partner
abbrev pub IsOpen : RuleParts → NodeSite → Type 0
IsOpen r x = HasNodeSite r.left x.node x.site × (touched r x.node x.site ≡ true) × LeavesOpen (link_test r.left x.node x.site)

pub record IsAsked (a : Asked) : Type 0 where
  pub valid : AreTables a.sig a.tables
  pub over : IsRuleOver a.sig a.rule
  pub few : length a.rule.left ≤ 12
  pub listed : (x : NodeSite) → Has a.open_sites x ↔ IsOpen a.rule x

-- one node, which has no bond to another
pub record IsOne (sig : List TypeEntry) (v : List Node) : Type 0 where
  pub valid : IsPatternOver sig v
  pub one : length v ≡ 1
  pub unnamed : (s : ℕ) → IsNoBond (link_test v 0 s)
