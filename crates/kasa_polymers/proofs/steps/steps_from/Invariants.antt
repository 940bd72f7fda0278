use Rattle.kasa_polymers.specs.inner.Steps.{IsStepAllowed}
use Rattle.kasa_polymers.proofs.PointLemmas.{AreChosen}
use Rattle.kasa_polymers.proofs.steps.steps_from.Given as goal

abbrev pub invariant-loop-number : goal.invariant-loop-number
invariant-loop-number g l = record { chosen : AreChosen l.points (IsStepAllowed l.sig (g.R.Rows.tables l.rows) l.bond) l.next l.number-index l.steps.items }
