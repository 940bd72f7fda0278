-- What the nodes of a root show at its columns in a mixture.
use Rattle.std.specs.Prelude.{ℕ, List, Option, map, slice_index_or}
use Rattle.kasa_graph.specs.declared.mixture.Agent.{Agent}
use Rattle.kasa_families.specs.declared.row.Row.{Row}
use Rattle.kasa_families.specs.declared.row.Row.TheVariants.{Locals}
use Rattle.kasa_families.specs.declared.shape.NodeSite.{NodeSite}
use Rattle.kasa_families.specs.Seen.{local_in}

-- the row that the root's nodes show where they lie on these cells
abbrev pub row_in : List (Option Agent) → List NodeSite → List ℕ → Row
row_in m columns cells = Locals (map (λ c. local_in m (slice_index_or cells c.node 0) c.site) columns)
