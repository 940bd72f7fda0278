use Rattle.kasa_columns.specs.Ask.{GoesOn, stored}
use Rattle.kasa_columns.specs.Settled.{IsRowSettled}
use Rattle.kasa_columns.proofs.WalkLemmas.{FirstSettled}
use Rattle.kasa_columns.proofs.walk.try_stored.Given as goal

abbrev pub invariant-loop-k : goal.invariant-loop-k
invariant-loop-k g l = GoesOn l.search l.initial.found.keys l.found.keys × FirstSettled (IsRowSettled l.search l.stands) (stored l.search) l.k l.found.keys
