use Rattle.std.proofs.Common.{ℕ, ◌<◌}
use Rattle.kasa_graph.proofs.FitLemmas.{MeetsAt}
use Rattle.kasa_graph.proofs.embedding.fits_cell.Given as goal

abbrev pub invariant-loop-site : goal.invariant-loop-site
invariant-loop-site l = (k : ℕ) → k < l.site → MeetsAt l.g l.m l.ids l.node l.cell k
