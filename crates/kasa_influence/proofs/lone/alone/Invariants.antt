use Rattle.kasa_influence.proofs.AloneSteps.{IsCopied}
use Rattle.kasa_influence.proofs.lone.alone.Given as goal

abbrev pub invariant-loop-site : goal.invariant-loop-site
invariant-loop-site l = IsCopied l.g l.node l.site l.v
