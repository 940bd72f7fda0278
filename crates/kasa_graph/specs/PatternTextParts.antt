-- The parts of a pattern's text, as they are written.
use Rattle.std.specs.Prelude.{ℕ, List, [], ◌++◌, slice_get, take}
use Rattle.std.specs.Option.{option_map_or}
use Rattle.kasa_graph.specs.declared.pattern.SiteTests.{SiteTests}
use Rattle.kasa_graph.specs.declared.pattern.Node.{Node}
use Rattle.kasa_graph.specs.Signature.{TypeEntry}
use Rattle.kasa_graph.specs.PatternText.{first_ends, first_ends_in, node_text}

-- the sites of a node
abbrev pub sites_at : List Node → ℕ → List SiteTests
sites_at g n = option_map_or (λ node. node.sites) (slice_get g n) []

-- the sites before (n, s) where bonds first stand
abbrev pub ends_before : List Node → ℕ → ℕ → List (ℕ × ℕ)
ends_before g n s = first_ends 0 (take n g) ++ first_ends_in n 0 (take s (sites_at g n))

-- the text of the node of this number
abbrev pub node_text_at : List TypeEntry → List Node → ℕ → List ℕ
node_text_at sig g n = option_map_or (λ node. node_text sig g n node) (slice_get g n) []
