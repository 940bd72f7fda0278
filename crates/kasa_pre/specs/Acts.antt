-- Families on which a rule acts: those of a type that it names, and all where it may touch the partner of any agent.
use Rattle.std.specs.Prelude.{◌≡◌, ℕ, ⊤, ◌⊎◌, true, List, Some}
use Rattle.kasa_graph.specs.declared.pattern.LinkTest.{LinkTest}
use Rattle.kasa_graph.specs.declared.pattern.LinkTest.TheVariants.{Any, Bound, Partner}
use Rattle.kasa_graph.specs.Signature.{TypeEntry}
use Rattle.kasa_graph.specs.Lists.{Has}
use Rattle.kasa_graph.specs.Pattern.{agent_at, link_test, HasNodeSite}
use Rattle.kasa_families.specs.declared.family.Family.{Family}
use Rattle.kasa_families.specs.declared.row.Row.{Row}
use Rattle.kasa_families.specs.Family.{family_types}
use Rattle.kasa_families.specs.Row.{IsRow}
use Rattle.kasa_families.specs.Table.{Table, AreTables, families_of, Holds}
use Rattle.kasa_rules.specs.Rule.{RuleParts, made_type, touched, IsRuleOver}
use Rattle.kasa_pre.specs.Yields.{Yields}

-- the test doesn't rule out a partner that the pattern doesn't name
abbrev pub LeavesOpen : LinkTest → Type 0
LeavesOpen Any = ⊤
LeavesOpen Bound = ⊤
LeavesOpen (Partner b y) = ⊤
LeavesOpen _ = ⊥

-- a left or created node of the rule has the type
abbrev pub Names : RuleParts → ℕ → Type 0
Names r a = ((n : ℕ) × (agent_at r.left n ≡ Some a)) ⊎ ((k : ℕ) × (made_type r k ≡ Some a))

-- the type of a node of the family's patterns is named
abbrev pub NamesTypeOf : RuleParts → Family → Type 0
NamesTypeOf r family = (a : ℕ) × Has (family_types family) a × Names r a

-- the rule touches a site of the left node, whose test leaves open which partner it has
abbrev pub TouchesOpenAt : RuleParts → ℕ → Type 0
TouchesOpenAt r n = (s : ℕ) × HasNodeSite r.left n s × (touched r n s ≡ true) × LeavesOpen (link_test r.left n s)

-- the same of some left node
abbrev pub TouchesOpen : RuleParts → Type 0
TouchesOpen r = (n : ℕ) × TouchesOpenAt r n

-- the rule acts on the family
abbrev pub ActsOn : RuleParts → Family → Type 0
ActsOn r family = NamesTypeOf r family ⊎ TouchesOpen r

-- whatever the rule yields of the family from tables that have it stands in those tables
abbrev pub YieldsNothingNew : RuleParts → Family → Type 0
YieldsNothingNew r family =
    (sig : List TypeEntry) (tables : List Table) (row : Row) → AreTables sig tables → IsRuleOver sig r → Has (families_of tables) family →
    IsRow sig family row → Yields sig tables r family row → Holds tables family row
