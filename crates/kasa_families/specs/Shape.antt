-- Shapes: a root of nodes and bonds, with columns, which are the sites of which each row gives the local state.
use Rattle.std.specs.Prelude.{◌≡◌, ◌≢◌, ℕ, zero, suc, ◌<◌, ⊤, List, [], ◌∷◌, ◌++◌, length, map}
use Rattle.std.specs.List.{AllByRecursion, AllZip}
use Rattle.kasa_graph.specs.declared.pattern.Node.{Node}
use Rattle.kasa_graph.specs.Signature.{TypeEntry, HasSite}
use Rattle.kasa_graph.specs.Pattern.{blank_node, with_bond}
use Rattle.kasa_graph.specs.Lists.{Has}
use Rattle.kasa_families.specs.declared.row.Local.{Local}
use Rattle.kasa_families.specs.declared.shape.NodeSite.{NodeSite}
use Rattle.kasa_families.specs.declared.shape.Bond.{Bond}
use Rattle.kasa_families.specs.Local.{IsLocal, with_local, LocalAgrees}

-- the types of the root's nodes, the bonds between their sites, and the columns
pub record Shape : Type 0 where
  pub types : List ℕ
  pub bonds : List Bond
  pub columns : List NodeSite

-- a site of a node, a bond between two
abbrev pub at : ℕ → ℕ → NodeSite
at n s = record { node = n; site = s }

abbrev pub bond : ℕ → ℕ → ℕ → ℕ → Bond
bond n s m t = record { first = at n s; second = at m t }

-- P holds of the n-th element, which there is
abbrev pub Nth : {X : Type 0} → List X → ℕ → (X → Type 0) → Type 0
Nth [] n P = ⊥
Nth (x ∷ xs) zero P = P x
Nth (x ∷ xs) (suc n) P = Nth xs n P

-- ---- patterns

-- g with each of some bonds
abbrev pub with_bonds : List Node → List Bond → List Node
with_bonds g [] = g
with_bonds g (b ∷ bonds) = with_bonds (with_bond g b.first.node b.first.site b.second.node b.second.site) bonds

-- the root: the nodes with their bonds
abbrev pub root_of : List TypeEntry → Shape → List Node
root_of sig shape = with_bonds (map (blank_node sig) shape.types) shape.bonds

-- g with a local state at each column
abbrev pub with_columns : List Node → List NodeSite → List Local → List Node
with_columns g (s ∷ columns) (l ∷ locals) = with_columns (with_local g s.node s.site l) columns locals
with_columns g _ _ = g

-- the pattern of a row
abbrev pub pattern_of : List TypeEntry → Shape → List Local → List Node
pattern_of sig shape locals = with_columns (root_of sig shape) shape.columns locals

-- ---- rows

-- a local state for each column, in order, valid for its node's type
abbrev pub AreColumns : List TypeEntry → List ℕ → List NodeSite → List Local → Type 0
AreColumns sig types columns locals = AllZip (λ s l. Nth types s.node (λ a. IsLocal sig a s.site l)) columns locals

-- none of them contradicts g, where the root's nodes have these places in g
abbrev pub ColumnsAgree : List Node → List ℕ → List NodeSite → List Local → Type 0
ColumnsAgree g place columns locals = AllZip (λ s l. Nth place s.node (λ n. LocalAgrees g n s.site l)) columns locals

-- ---- which shapes are valid

-- the sites that bonds join, and all sites that a shape names
abbrev pub ends : List Bond → List NodeSite
ends [] = []
ends (b ∷ bonds) = b.first ∷ b.second ∷ ends bonds

abbrev pub named : Shape → List NodeSite
named shape = ends shape.bonds ++ shape.columns

-- no site stands twice
abbrev pub AreApart : List NodeSite → Type 0
AreApart [] = ⊤
AreApart (s ∷ sites) = AllByRecursion (λ t. s ≢ t) sites × AreApart sites

-- some bond joins the node to an earlier one
abbrev pub IsReached : List Bond → ℕ → Type 0
IsReached bonds n = (b : Bond) × Has bonds b × (b.second.node ≡ n) × (b.first.node < n)

-- types and named sites exist, no site is named twice, and each node but the first has a bond to an earlier one
pub record IsShape (sig : List TypeEntry) (shape : Shape) : Type 0 where
  pub some : 0 < length shape.types
  pub types : AllByRecursion (λ a. a < length sig) shape.types
  pub sites : AllByRecursion (λ s. Nth shape.types s.node (λ a. HasSite sig a s.site)) (named shape)
  pub apart : AreApart (named shape)
  pub joined : (n : ℕ) → suc n < length shape.types → IsReached shape.bonds (suc n)
