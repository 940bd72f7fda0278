use Rattle.kasa_graph.proofs.EqualLemmas.{same_signature, same_pattern, same_mixture}
use Rattle.kasa_graph.proofs.laws.equal_is_the_same.Goals as goal

pub returns-clause-signatures : goal.returns-clause-signatures
returns-clause-signatures c = same_signature

pub returns-clause-patterns : goal.returns-clause-patterns
returns-clause-patterns c = same_pattern

pub returns-clause-mixtures : goal.returns-clause-mixtures
returns-clause-mixtures c = same_mixture
