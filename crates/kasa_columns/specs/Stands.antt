-- Stands of the nodes of a root, node by node.
use Rattle.std.specs.Prelude.{◌≡◌, ℕ, List, [], ◌∷◌, ◌++◌, None}
use Rattle.kasa_graph.specs.Lists.{Has}
use Rattle.kasa_families.specs.declared.shape.NodeSite.{NodeSite}
use Rattle.kasa_families.specs.declared.shape.Bond.{Bond}
use Rattle.kasa_families.specs.Shape.{Nth}
use Rattle.kasa_rules.specs.Rule.{RuleParts}
use Rattle.kasa_pre.specs.declared.Stand.{Stand}
use Rattle.kasa_pre.specs.declared.Stand.TheVariants.{Left, Made}
use Rattle.kasa_pre.specs.Before.{FitsStand, link_written}
use Rattle.kasa_columns.specs.Settled.{FollowsBonds}

-- it comes from one of some elements
abbrev pub AreFrom : {X Y : Type 0} → (X → Y → Type 0) → List X → Y → Type 0
AreFrom {X} Q xs y = (x : X) × Has xs x × Q x y

-- a kept left node of the type, a created agent of it
abbrev pub IsLeftOf : RuleParts → ℕ → ℕ → Stand → Type 0
IsLeftOf r a n stand = (stand ≡ Left n) × FitsStand r (Left n) a

abbrev pub IsMadeOf : RuleParts → ℕ → ℕ → Stand → Type 0
IsMadeOf r a k stand = (stand ≡ Made k) × FitsStand r (Made k) a

-- the first stands with the next node's, where the bonds tell so
abbrev pub IsWith : RuleParts → List Bond → List Stand → Stand → List Stand → Type 0
IsWith r bonds first stand more = (more ≡ first ++ stand ∷ []) × FollowsBonds r bonds more

-- or with one of those that it may have
abbrev pub IsLonger : RuleParts → List Bond → List Stand → List Stand → List Stand → Type 0
IsLonger r bonds next first more = AreFrom (IsWith r bonds first) next more

-- the rule doesn't write the end of a bond, nor both
abbrev pub LeavesEnd : RuleParts → List Stand → NodeSite → Type 0
LeavesEnd r stands e = Nth stands e.node (λ stand. link_written r stand e.site ≡ None)

abbrev pub LeavesBond : RuleParts → List Stand → Bond → Type 0
LeavesBond r stands b = LeavesEnd r stands b.first × LeavesEnd r stands b.second
