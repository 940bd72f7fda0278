use Rattle.kasa_graph.proofs.RemoveLemmas.{IsFreeing}
use Rattle.kasa_graph.proofs.mixture.remove_agent.Given as goal

abbrev pub invariant-loop-site : goal.invariant-loop-site
invariant-loop-site l = IsFreeing l.fn.cells l.cells l.c l.site-index
