use Rattle.kasa_graph.proofs.FitLemmas.{AreDifferentBelow}
use Rattle.kasa_graph.proofs.embedding.are_different.Given as goal

abbrev pub invariant-loop-k : goal.invariant-loop-k
invariant-loop-k l = AreDifferentBelow l.ids l.k
