use Rattle.std.proofs.Common.{arith}
use Rattle.kasa_graph.proofs.CellLemmas.{IsMixture-[]}
use Rattle.kasa_graph.proofs.mixture.Mixture.new.Goals as goal

pub invariant_of-result : goal.invariant_of-result
invariant_of-result c = rw c.new.ensures.items (record { linked = IsMixture-[]; few = omega arith })
