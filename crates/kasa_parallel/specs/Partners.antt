-- Stands of an agent and of its partners.
use Rattle.std.specs.Prelude.{◌≡◌, ◌≢◌, ℕ, ◌⊎◌, List, [], ◌∷◌, Some, None, slice_get}
use Rattle.kasa_graph.specs.declared.pattern.Node.{Node}
use Rattle.kasa_graph.specs.declared.pattern.LinkTest.{LinkTest}
use Rattle.kasa_graph.specs.declared.pattern.LinkTest.TheVariants.{Any}
use Rattle.kasa_graph.specs.Pattern.{link_test}
use Rattle.kasa_graph.specs.Signature.{TypeEntry}
use Rattle.kasa_families.specs.Shape.{bond}
use Rattle.kasa_families.specs.Table.{Table}
use Rattle.kasa_rules.specs.Rule.{RuleParts}
use Rattle.kasa_pre.specs.declared.Stand.{Stand}
use Rattle.kasa_pre.specs.declared.Stand.TheVariants.{Left}
use Rattle.kasa_pre.specs.declared.FreedBy.{FreedBy}
use Rattle.kasa_pre.specs.Before.{FitsStand, link_written}
use Rattle.kasa_columns.specs.Forward.{YieldsAt}
use Rattle.kasa_columns.specs.Settled.{FollowsBond}

-- the link test of a left node, Any where the stand is none
abbrev pub test_of : RuleParts → Stand → ℕ → LinkTest
test_of r (Left n) s = link_test r.left n s
test_of r stand s = Any

-- a node of the type with the other stand may be the partner of a node with the one, by a bond from x to y: each end of the
-- bond tells the other
pub record IsPartner (r : RuleParts) (one : Stand) (x b y : ℕ) (other : Stand) : Type 0 where
  pub fits : FitsStand r other b
  pub follows : FollowsBond r (one ∷ other ∷ []) (bond 0 x 1 y)

-- the rule writes a bond of a node with the stand, at x or at u
abbrev pub WritesPartner : RuleParts → ℕ → ℕ → Stand → Type 0
WritesPartner r x u stand = (link_written r stand x ≢ None) ⊎ (link_written r stand u ≢ None)

-- the rule yields the pattern where its first node has the stand
pub record YieldsWith (sig : List TypeEntry) (tables : List Table) (r : RuleParts) (v : List Node) (first : Stand) : Type 0 where
  pub stands : List Stand
  pub freed : List FreedBy
  pub begins : slice_get stands 0 ≡ Some first
  pub yields : YieldsAt sig tables r v stands freed
