-- Sites of a pattern between which a bond can be put.
use Rattle.std.specs.Prelude.{◌≢◌, List}
use Rattle.kasa_graph.specs.declared.pattern.Node.{Node}
use Rattle.kasa_graph.specs.Pattern.{link_test, HasNodeSite, IsNoBond}
use Rattle.kasa_families.specs.declared.shape.NodeSite.{NodeSite}
use Rattle.kasa_families.specs.declared.shape.Bond.{Bond}

-- the site exists and has no bond to a node
abbrev pub IsOpen : List Node → NodeSite → Type 0
IsOpen g s = HasNodeSite g s.node s.site × IsNoBond (link_test g s.node s.site)

-- both sites are open, and they are two
pub record CanJoin (g : List Node) (b : Bond) : Type 0 where
  pub first : IsOpen g b.first
  pub second : IsOpen g b.second
  pub differ : b.first ≢ b.second
