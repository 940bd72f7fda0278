-- The pattern of a row, and where rows and roots stand in mixtures.
use Rattle.std.specs.Prelude.{ℕ, List, [], ◌++◌, Option}
use Rattle.kasa_graph.specs.declared.pattern.Node.{Node}
use Rattle.kasa_graph.specs.declared.mixture.Agent.{Agent}
use Rattle.kasa_graph.specs.Signature.{TypeEntry}
use Rattle.kasa_graph.specs.Embedding.{IsEmbedding}
pub use Rattle.kasa_families.specs.Local.{local_state_test, local_link_test, with_local}
pub use Rattle.kasa_families.specs.Kinds.{with_locals}
use Rattle.kasa_families.specs.declared.family.Family.{Family}
use Rattle.kasa_families.specs.declared.family.Family.TheVariants.{Parallel}
use Rattle.kasa_families.specs.declared.row.Row.{Row}
use Rattle.kasa_families.specs.declared.row.Row.TheVariants.{Locals, Same, Different}
use Rattle.kasa_families.specs.Shape.{root_of, pattern_of}
use Rattle.kasa_families.specs.Family.{shape_of, same, different}

-- the pattern of a row of a family; the nodes of the root come first
abbrev pub row_pattern : List TypeEntry → Family → Row → List Node
row_pattern sig (Parallel a x u b y w) Same = root_of sig (same a x u b y w)
row_pattern sig (Parallel a x u b y w) Different = root_of sig (different a x u b y w)
row_pattern sig (Parallel a x u b y w) (Locals locals) = []
row_pattern sig family (Locals locals) = pattern_of sig (shape_of family) locals
-- a row of another shape has no pattern of its own
row_pattern sig family row = []

-- the row occurs in a mixture
abbrev pub Occurs : List TypeEntry → Family → Row → List (Option Agent) → Type 0
Occurs sig family row m = (cells : List ℕ) × IsEmbedding (row_pattern sig family row) m cells

-- an embedding of the root extends to one of the row
abbrev pub Extends : List TypeEntry → Family → Row → List (Option Agent) → List ℕ → Type 0
Extends sig family row m cells = (more : List ℕ) × IsEmbedding (row_pattern sig family row) m (cells ++ more)
