-- Rows that come forward through a firing: from a stored row of the same family where the rule writes no bond of the root.
use Rattle.std.specs.Prelude.{◌≡◌, ℕ, ⊤, List, [], ◌∷◌, map, None}
use Rattle.std.specs.List.{AllByRecursion, AllZip}
use Rattle.kasa_graph.specs.declared.pattern.Node.{Node}
use Rattle.kasa_graph.specs.Signature.{TypeEntry}
use Rattle.kasa_families.specs.declared.family.Family.{Family}
use Rattle.kasa_families.specs.declared.family.Family.TheVariants.{Parallel}
use Rattle.kasa_families.specs.declared.row.LocalLink.TheVariants.{Free}
use Rattle.kasa_families.specs.declared.row.Local.{Local}
use Rattle.kasa_families.specs.declared.row.Row.TheVariants.{Locals}
use Rattle.kasa_families.specs.declared.shape.NodeSite.{NodeSite}
use Rattle.kasa_families.specs.declared.shape.Bond.{Bond}
use Rattle.kasa_families.specs.Local.{LocalAgrees}
use Rattle.kasa_families.specs.Shape.{Nth, ends}
use Rattle.kasa_families.specs.Family.{shape_of}
use Rattle.kasa_families.specs.Pattern.{row_pattern}
use Rattle.kasa_families.specs.Table.{Table, Holds}
use Rattle.kasa_rules.specs.Rule.{RuleParts}
use Rattle.kasa_pre.specs.declared.Stand.{Stand}
use Rattle.kasa_pre.specs.declared.Stand.TheVariants.{Left, Made}
use Rattle.kasa_pre.specs.declared.FreedBy.{FreedBy}
use Rattle.kasa_pre.specs.Allowed.{IsAllowed}
use Rattle.kasa_pre.specs.Before.{FitsStand, link_written, AreFreed, IsBefore}
use Rattle.kasa_columns.specs.Comes.{Outcome, ComesOut}

-- the rows of the family list local states at its shape's columns
abbrev pub HasColumns : Family → Type 0
HasColumns (Parallel a x u b y w) = ⊥
HasColumns family = ⊤

-- ---- what was shown before

-- the rule writes neither end of any bond
abbrev pub LeavesBonds : RuleParts → List Bond → List Stand → Type 0
LeavesBonds r bonds stands = AllByRecursion (λ e. Nth stands e.node (λ stand. link_written r stand e.site ≡ None)) (ends bonds)

-- what the columns showed, where the rule leaves the bonds: a row that the tables hold, and for a single created node nothing
-- that matters
abbrev pub IsStored : List Table → Family → List Stand → List Local → Type 0
IsStored tables family (Made k ∷ []) shown = shown ≡ map (λ _. record { state = None; link = Free }) (shape_of family).columns
IsStored tables family stands shown = Holds tables family (Locals shown)

-- the local state at a site doesn't contradict what the left pattern asks there of a node with the stand
abbrev pub StandAgrees : RuleParts → ℕ → Local → Stand → Type 0
StandAgrees r s l (Left n) = LocalAgrees r.left n s l
StandAgrees r s l stand = ⊤

-- so it is at each column
abbrev pub AgreesLeft : RuleParts → List Stand → List NodeSite → List Local → Type 0
AgreesLeft r stands columns shown = AllZip (λ c l. Nth stands c.node (StandAgrees r c.site l)) columns shown

-- ---- rows

-- the rule yields the pattern from the tables for stands and freed tests
pub record YieldsAt (sig : List TypeEntry) (tables : List Table) (r : RuleParts) (v : List Node) (stands : List Stand) (freed : List FreedBy) : Type 0 where
  pub free : AreFreed r v stands freed
  pub pattern : List Node
  pub before : IsBefore sig r v stands freed pattern
  pub allowed : IsAllowed sig tables pattern

-- the rule yields the row, and leaves the bonds of the root
pub record YieldsLeaving (sig : List TypeEntry) (tables : List Table) (r : RuleParts) (family : Family) (locals : List Local) : Type 0 where
  pub stands : List Stand
  pub leaves : LeavesBonds r (shape_of family).bonds stands
  pub freed : List FreedBy
  pub yields : YieldsAt sig tables r (row_pattern sig family (Locals locals)) stands freed

-- the rule yields the local states forward from local states that the nodes with the stands may have shown
pub record ComesForward (sig : List TypeEntry) (tables : List Table) (r : RuleParts) (family : Family) (may : List Stand → List Local → Type 0) (locals : List Local) : Type 0 where
  pub stands : List Stand
  pub fit : AllZip (FitsStand r) stands (shape_of family).types
  pub shown : List Local
  pub was : may stands shown
  pub agrees : AgreesLeft r stands (shape_of family).columns shown
  pub out : Outcome
  pub comes : ComesOut r stands (shape_of family).columns shown out
  pub is : out.locals ≡ locals
  pub yields : YieldsAt sig tables r (row_pattern sig family (Locals locals)) stands out.freed

-- from a stored row, where the rule leaves the bonds
abbrev pub WasStored : List Table → RuleParts → Family → List Stand → List Local → Type 0
WasStored tables r family stands shown = LeavesBonds r (shape_of family).bonds stands × IsStored tables family stands shown
