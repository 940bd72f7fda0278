use Rattle.kasa_columns.specs.Ask.{GoesOn}
use Rattle.kasa_columns.specs.Settled.{IsOutcomeSettled}
use Rattle.kasa_columns.proofs.WalkLemmas.{FirstSettled}
use Rattle.kasa_columns.proofs.walk.try_shown.Given as goal

abbrev pub invariant-loop-out : goal.invariant-loop-out
invariant-loop-out g l = GoesOn l.search l.initial.found.keys l.found.keys × FirstSettled (IsOutcomeSettled l.search l.stands) l.out-items l.out-index l.found.keys
