-- Local states at sites of one node, by which views are read.
use Rattle.std.specs.Prelude.{ℕ, List, ◌∷◌}
use Rattle.std.specs.List.{AllZip}
use Rattle.kasa_graph.specs.declared.pattern.Node.{Node}
use Rattle.kasa_graph.specs.Signature.{TypeEntry}
use Rattle.kasa_families.specs.declared.row.Local.{Local}
use Rattle.kasa_families.specs.Local.{IsLocal, with_local, LocalAgrees}

-- g with a local state at each of some sites of a node
abbrev pub with_locals : List Node → ℕ → List ℕ → List Local → List Node
with_locals g n (s ∷ sites) (l ∷ locals) = with_locals (with_local g n s l) n sites locals
with_locals g n _ _ = g

-- a local state for each site of a type, in order
abbrev pub AreLocals : List TypeEntry → ℕ → List ℕ → List Local → Type 0
AreLocals sig a sites locals = AllZip (IsLocal sig a) sites locals

-- none contradicts g
abbrev pub LocalsAgree : List Node → ℕ → List ℕ → List Local → Type 0
LocalsAgree g n sites locals = AllZip (LocalAgrees g n) sites locals
