use Rattle.kasa_columns.specs.Ask.{GoesOn}
use Rattle.kasa_columns.specs.Settled.{IsAgreeingSettled}
use Rattle.kasa_columns.proofs.WalkLemmas.{FirstSettled}
use Rattle.kasa_columns.proofs.walk.try_chosen.Given as goal

abbrev pub invariant-loop-shown : goal.invariant-loop-shown
invariant-loop-shown g l = GoesOn l.search l.initial.found.keys l.found.keys × FirstSettled (IsAgreeingSettled l.search l.stands) l.shown-items l.shown-index l.found.keys
