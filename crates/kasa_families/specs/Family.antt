-- Families: which are valid, their shapes, and their root patterns.
use Rattle.std.specs.Prelude.{◌≡◌, ◌≢◌, ℕ, ◌<◌, ◌≤◌, ⊤, List, [], ◌∷◌, length, map, Some, slice_get}
use Rattle.kasa_graph.specs.declared.pattern.Node.{Node}
use Rattle.kasa_graph.specs.Signature.{TypeEntry}
use Rattle.kasa_graph.specs.declared.pattern.LinkTest.TheVariants.{Partner}
use Rattle.kasa_graph.specs.Signature.{HasSite}
use Rattle.kasa_graph.specs.Pattern.{blank_node, with_link}
use Rattle.kasa_families.specs.declared.family.Family.{Family}
use Rattle.kasa_families.specs.declared.family.Family.TheVariants.{View, Across, Parallel, Chain}
use Rattle.kasa_families.specs.Shape.{Shape, at, bond, root_of}

-- each number is smaller than the next
abbrev pub Ascends : List ℕ → Type 0
Ascends [] = ⊤
Ascends (x ∷ []) = ⊤
Ascends (x ∷ y ∷ xs) = (x < y) × Ascends (y ∷ xs)

-- a family is valid over a signature
abbrev pub IsFamily : List TypeEntry → Family → Type 0
IsFamily sig (View a sites) = (a < length sig) × ((k s : ℕ) → slice_get sites k ≡ Some s → HasSite sig a s) × Ascends sites × (length sites ≤ 16)
IsFamily sig (Across a x p b y q) = HasSite sig a x × HasSite sig a p × HasSite sig b y × HasSite sig b q × (p ≢ x) × (q ≢ y)
IsFamily sig (Parallel a x u b y w) = HasSite sig a x × HasSite sig a u × HasSite sig b y × HasSite sig b w × (a ≢ b) × (x ≢ u) × (y ≢ w)
IsFamily sig (Chain a x p b y z c w q) = HasSite sig a x × HasSite sig a p × HasSite sig b y × HasSite sig b z × HasSite sig c w × HasSite sig c q × (p ≢ x) × (y ≢ z) × (q ≢ w)

-- the shapes of a parallel family's rows: both bonds lead to one node, or to two
abbrev pub same : ℕ → ℕ → ℕ → ℕ → ℕ → ℕ → Shape
same a x u b y w = record { types = a ∷ b ∷ []; bonds = bond 0 x 1 y ∷ bond 0 u 1 w ∷ []; columns = [] }

abbrev pub different : ℕ → ℕ → ℕ → ℕ → ℕ → ℕ → Shape
different a x u b y w = record { types = a ∷ b ∷ b ∷ []; bonds = bond 0 x 1 y ∷ bond 0 u 2 w ∷ []; columns = [] }

-- the shape of a family; of a parallel one, whose root is none of a shape, that of its row Same
abbrev pub shape_of : Family → Shape
shape_of (View a sites) = record { types = a ∷ []; bonds = []; columns = map (at 0) sites }
shape_of (Across a x p b y q) = record { types = a ∷ b ∷ []; bonds = bond 0 x 1 y ∷ []; columns = at 0 p ∷ at 1 q ∷ [] }
shape_of (Parallel a x u b y w) = same a x u b y w
shape_of (Chain a x p b y z c w q) = record { types = a ∷ b ∷ c ∷ []; bonds = bond 0 x 1 y ∷ bond 1 z 2 w ∷ []; columns = at 0 p ∷ at 2 q ∷ [] }

-- the types of the nodes of a family's patterns
abbrev pub family_types : Family → List ℕ
family_types family = (shape_of family).types

-- the pattern that each row of the family refines
abbrev pub root : List TypeEntry → Family → List Node
root sig (Parallel a x u b y w) = with_link (with_link (blank_node sig a ∷ []) 0 x (Partner b y)) 0 u (Partner b w)
root sig family = root_of sig (shape_of family)
