-- How far a search went.
use Rattle.std.specs.Prelude.{◌≡◌, List, ◌<◌, length}
use Rattle.std.specs.List.{AllZip}
use Rattle.kasa_graph.specs.Lists.{Has}
use Rattle.kasa_graph.specs.declared.pattern.Node.{Node}
use Rattle.kasa_families.specs.declared.row.Local.{Local}
use Rattle.kasa_families.specs.declared.row.Row.{Row}
use Rattle.kasa_families.specs.declared.row.Row.TheVariants.{Locals}
use Rattle.kasa_families.specs.declared.shape.Bond.{Bond}
use Rattle.kasa_families.specs.Family.{shape_of}
use Rattle.kasa_families.specs.Row.{IsRow}
use Rattle.kasa_families.specs.Pattern.{row_pattern}
use Rattle.kasa_rules.specs.Rule.{RuleParts}
use Rattle.kasa_pre.specs.declared.Stand.{Stand}
use Rattle.kasa_pre.specs.declared.FreedBy.{FreedBy}
use Rattle.kasa_pre.specs.Before.{FitsStand, IsBefore}
use Rattle.kasa_pre.specs.Allowed.{IsAllowed}
use Rattle.kasa_columns.specs.Comes.{Outcome, ComesOut}
use Rattle.kasa_columns.specs.Forward.{YieldsAt, AgreesLeft}
use Rattle.kasa_columns.specs.Along.{LeadsAlong}
use Rattle.kasa_columns.specs.Ask.{Ask, IsSettled}

-- ---- stands

-- as far as the bond's nodes have stands, each tells the other's
abbrev pub FollowsBond : RuleParts → List Stand → Bond → Type 0
FollowsBond r stands b = b.first.node < length stands → b.second.node < length stands → LeadsAlong r stands b.first b.second × LeadsAlong r stands b.second b.first

abbrev pub FollowsBonds : RuleParts → List Bond → List Stand → Type 0
FollowsBonds r bonds stands = (b : Bond) → Has bonds b → FollowsBond r stands b

-- a stand for each node, which its type may have, and which the bonds tell
pub record ArePossible (a : Ask) (stands : List Stand) : Type 0 where
  pub fit : AllZip (FitsStand a.rule) stands (shape_of a.family).types
  pub follow : FollowsBonds a.rule (shape_of a.family).bonds stands

-- ---- what is settled

-- the pattern v stands after the rule fired on a pattern that the tables allow, with the stands and the freed tests
abbrev pub StandsAfter : Ask → List Node → List Stand → List FreedBy → Type 0
StandsAfter a v stands freed = (g : List Node) × IsBefore a.sig a.rule v stands freed g × IsAllowed a.sig a.tables g

-- the outcome of nodes with the stands is settled
abbrev pub IsOutcomeSettled : Ask → List Stand → List Row → Outcome → Type 0
IsOutcomeSettled a stands found out =
    IsRow a.sig a.family (Locals out.locals) → YieldsAt a.sig a.tables a.rule (row_pattern a.sig a.family (Locals out.locals)) stands out.freed → IsSettled a found (Locals out.locals)

-- so is each outcome of nodes that showed these local states
abbrev pub IsShownSettled : Ask → List Stand → List Row → List Local → Type 0
IsShownSettled a stands found shown = (out : Outcome) → ComesOut a.rule stands a.columns shown out → IsOutcomeSettled a stands found out

-- so it is where the left pattern doesn't contradict them
abbrev pub IsAgreeingSettled : Ask → List Stand → List Row → List Local → Type 0
IsAgreeingSettled a stands found shown = AgreesLeft a.rule stands a.columns shown → IsShownSettled a stands found shown

-- and where a stored row gives them
abbrev pub IsRowSettled : Ask → List Stand → List Row → Row → Type 0
IsRowSettled a stands found row = (shown : List Local) → row ≡ Locals shown → IsAgreeingSettled a stands found shown

-- and where the nodes showed what they may have shown
abbrev pub AreStandsSettled : Ask → (List Local → Type 0) → List Row → List Stand → Type 0
AreStandsSettled a may found stands = (shown : List Local) → may shown → IsAgreeingSettled a stands found shown
