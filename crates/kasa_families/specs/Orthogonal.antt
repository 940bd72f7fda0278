-- Embeddings of roots that extend to one row alone.
use Rattle.std.specs.Prelude.{◌≡◌, ℕ, List, [], ◌++◌, Option}
use Rattle.kasa_graph.specs.declared.mixture.Agent.{Agent}
use Rattle.kasa_graph.specs.Signature.{TypeEntry}
use Rattle.kasa_graph.specs.Embedding.{IsEmbedding}
use Rattle.kasa_families.specs.declared.family.Family.{Family}
use Rattle.kasa_families.specs.declared.row.Local.{Local}
use Rattle.kasa_families.specs.declared.row.Row.{Row}
use Rattle.kasa_families.specs.Shape.{Shape, AreColumns, pattern_of}
use Rattle.kasa_families.specs.Row.{IsRow}
use Rattle.kasa_families.specs.Pattern.{row_pattern}

-- the cells of a shape's root are embedded for just one list of local states, and with no further cells
pub record ShapeExtendsOnce (sig : List TypeEntry) (shape : Shape) (m : List (Option Agent)) (cells : List ℕ) : Type 0 where
  pub locals : List Local
  pub valid : AreColumns sig shape.types shape.columns locals
  pub embedded : IsEmbedding (pattern_of sig shape locals) m cells
  pub only : (other : List Local) (more : List ℕ) → AreColumns sig shape.types shape.columns other → IsEmbedding (pattern_of sig shape other) m (cells ++ more) → (other ≡ locals) × (more ≡ [])

-- the cells extend to an embedding of just one valid row's pattern, in just one way
pub record ExtendsOnce (sig : List TypeEntry) (family : Family) (m : List (Option Agent)) (cells : List ℕ) : Type 0 where
  pub row : Row
  pub valid : IsRow sig family row
  pub more : List ℕ
  pub embedded : IsEmbedding (row_pattern sig family row) m (cells ++ more)
  pub only : (other : Row) (others : List ℕ) → IsRow sig family other → IsEmbedding (row_pattern sig family other) m (cells ++ others) → (other ≡ row) × (others ≡ more)
