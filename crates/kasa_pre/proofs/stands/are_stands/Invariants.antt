use Rattle.kasa_pre.proofs.StandsLoops.{FitBelow}
use Rattle.kasa_pre.proofs.stands.are_stands.Given as goal

abbrev pub invariant-loop-i : goal.invariant-loop-i
invariant-loop-i l = FitBelow l.rule l.v l.stands l.i
