-- Where the other node of a bond stands, and columns that stay: what cuts off stands and rows before any pattern is made.
use Rattle.std.specs.Prelude.{◌≡◌, ⊤, ◌⊎◌, List, Some, None, MatchOption, slice_get}
use Rattle.std.specs.List.{AllByRecursion}
use Rattle.kasa_graph.specs.Lists.{Has}
use Rattle.kasa_graph.specs.declared.pattern.LinkTest.{LinkTest}
use Rattle.kasa_graph.specs.declared.pattern.LinkTest.TheVariants as test
use Rattle.kasa_graph.specs.Pattern.{link_test}
use Rattle.kasa_families.specs.declared.shape.NodeSite.{NodeSite}
use Rattle.kasa_families.specs.declared.shape.Bond.{Bond}
use Rattle.kasa_families.specs.Shape.{Nth}
use Rattle.kasa_rules.specs.declared.rule.Written.{Written}
use Rattle.kasa_rules.specs.declared.rule.Written.TheVariants.{Free, To}
use Rattle.kasa_rules.specs.Rule.{RuleParts}
use Rattle.kasa_pre.specs.declared.Stand.{Stand}
use Rattle.kasa_pre.specs.declared.Stand.TheVariants.{Left}
use Rattle.kasa_pre.specs.Before.{stand_of, state_written, link_written}

-- some bond joins the sites
abbrev pub AreJoined : List Bond → NodeSite → NodeSite → Type 0
AreJoined bonds s t = (b : Bond) × Has bonds b × (((b.first ≡ s) × (b.second ≡ t)) ⊎ ((b.second ≡ s) × (b.first ≡ t)))

-- the node of t stands at the end of a written bond
abbrev pub WrittenLeads : List Stand → NodeSite → Written → Type 0
WrittenLeads stands t (To e y) = (y ≡ t.site) × (slice_get stands t.node ≡ Some (stand_of e))
WrittenLeads stands t Free = ⊥

-- it stands where a left node's test leads, if it leads to a node; a test for a partner names the site
abbrev pub TestLeads : List Stand → NodeSite → LinkTest → Type 0
TestLeads stands t (test.To m u) = (u ≡ t.site) × (slice_get stands t.node ≡ Some (Left m))
TestLeads stands t test.Free = ⊥
TestLeads stands t (test.Partner b y) = y ≡ t.site
TestLeads stands t _ = ⊤

abbrev pub StandLeads : RuleParts → List Stand → NodeSite → NodeSite → Stand → Type 0
StandLeads r stands s t (Left n) = TestLeads stands t (link_test r.left n s.site)
StandLeads r stands s t stand = ⊤

-- the stand of the node of s tells where the node of t stands
abbrev pub LeadsAlong : RuleParts → List Stand → NodeSite → NodeSite → Type 0
LeadsAlong r stands s t = Nth stands s.node (λ stand. MatchOption (link_written r stand s.site) (StandLeads r stands s t stand) (WrittenLeads stands t))

-- the rule writes nothing at the columns
abbrev pub LeavesColumns : RuleParts → List NodeSite → List Stand → Type 0
LeavesColumns r columns stands = AllByRecursion (λ c. Nth stands c.node (λ stand. (state_written r stand c.site ≡ None) × (link_written r stand c.site ≡ None))) columns
