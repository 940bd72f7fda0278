use Rattle.kasa_compile.proofs.JoiningLemmas.{SitesDone}
use Rattle.kasa_compile.proofs.complex.join_agent.Given as goal

abbrev pub invariant-loop-site : goal.invariant-loop-site
invariant-loop-site l = SitesDone l.agents l.initial.mixture l.mixture l.cell l.site-items l.site-index
