-- Whether a row of a family can stand at a place of its root.
use Rattle.std.specs.Prelude.{◌≡◌, ◌≢◌, ℕ, List, [], ◌∷◌}
use Rattle.kasa_graph.specs.declared.pattern.Node.{Node}
use Rattle.kasa_graph.specs.declared.pattern.LinkTest.TheVariants.{To}
use Rattle.kasa_graph.specs.Pattern.{link_test, LinksAgree}
pub use Rattle.kasa_families.specs.Local.{LocalAgrees}
pub use Rattle.kasa_families.specs.Kinds.{LocalsAgree}
use Rattle.kasa_families.specs.declared.family.Family.{Family}
use Rattle.kasa_families.specs.declared.family.Family.TheVariants.{Parallel}
use Rattle.kasa_families.specs.declared.row.Row.{Row}
use Rattle.kasa_families.specs.declared.row.Row.TheVariants.{Locals, Same, Different}
use Rattle.kasa_families.specs.Shape.{ColumnsAgree}
use Rattle.kasa_families.specs.Family.{shape_of}

-- both partners of node n, at x and at u, can be one node with the sites y and w
pub record CanBeSame (g : List Node) (n x u y w : ℕ) : Type 0 where
  pub one : (m k t v : ℕ) → link_test g n x ≡ To m t → link_test g n u ≡ To k v → m ≡ k
  pub back_at_w : (m t : ℕ) → link_test g n x ≡ To m t → LinksAgree g (link_test g m w) (To n u)
  pub back_at_y : (m t : ℕ) → link_test g n u ≡ To m t → LinksAgree g (link_test g m y) (To n x)

-- they can be two nodes
pub record CanBeDifferent (g : List Node) (n x u : ℕ) : Type 0 where
  pub two : (m k t v : ℕ) → link_test g n x ≡ To m t → link_test g n u ≡ To k v → m ≢ k

-- the row of the family is compatible with g at the place
abbrev pub IsCompatible : List Node → Family → List ℕ → Row → Type 0
IsCompatible g (Parallel a x u b y w) (n ∷ []) Same = CanBeSame g n x u y w
IsCompatible g (Parallel a x u b y w) (n ∷ []) Different = CanBeDifferent g n x u
IsCompatible g (Parallel a x u b y w) place row = ⊥
IsCompatible g family place (Locals locals) = ColumnsAgree g place (shape_of family).columns locals
IsCompatible g family place row = ⊥
