-- Connected patterns.
use Rattle.std.specs.Prelude.{◌≡◌, ℕ, ◌<◌, List, [], ◌∷◌, length}
use Rattle.kasa_graph.specs.declared.pattern.Node.{Node}
use Rattle.kasa_graph.specs.declared.pattern.LinkTest.TheVariants.{To}
use Rattle.kasa_graph.specs.Pattern.{link_test}

-- there is a bond between two nodes
abbrev pub AreBound : List Node → ℕ → ℕ → Type 0
AreBound g n m = (s t : ℕ) × (link_test g n s ≡ To m t)

-- bonds lead from a node to the nodes of a list, one after the other, of which node m is the last
abbrev pub IsWalk : List Node → ℕ → List ℕ → ℕ → Type 0
IsWalk g n [] m = n ≡ m
IsWalk g n (k ∷ ks) m = AreBound g n k × IsWalk g k ks m

-- Bonds lead from the first node to each node. Since bonds are mutual, they then lead from each node to each other one.
abbrev pub IsConnected : List Node → Type 0
IsConnected g = (n : ℕ) → n < length g → (via : List ℕ) × IsWalk g 0 via n
