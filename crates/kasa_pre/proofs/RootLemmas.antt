-- Each embedding of a valid family's root extends to one of a valid row.
use Rattle.std.proofs.Common.{ℕ, List}
use Rattle.std.specs.Prelude.{Option}
use Rattle.kasa_graph.specs.declared.mixture.Agent.{Agent}
use Rattle.kasa_graph.specs.Signature.{TypeEntry}
use Rattle.kasa_graph.specs.Mixture.{IsMixtureOver}
use Rattle.kasa_graph.specs.Embedding.{IsEmbedding}
use Rattle.kasa_families.specs.declared.family.Family.{Family}
use Rattle.kasa_families.specs.declared.row.Row.{Row}
use Rattle.kasa_families.specs.Family.{IsFamily, root}
use Rattle.kasa_families.specs.Row.{IsRow}
use Rattle.kasa_families.specs.Pattern.{Extends}
use Rattle.kasa_families.proofs.Orthogonal.{root_extends_once}

pub root_extends : (sig : List TypeEntry) (family : Family) → IsFamily sig family → (m : List (Option Agent)) → IsMixtureOver sig m → (cells : List ℕ) → IsEmbedding (root sig family) m cells → (row : Row) × IsRow sig family row × Extends sig family row m cells
root_extends sig family ok m over cells at =
    let once = root_extends_once sig family m cells ok over at in
    (once.row, once.valid, (once.more, once.embedded))
