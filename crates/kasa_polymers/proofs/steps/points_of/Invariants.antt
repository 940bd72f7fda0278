use Rattle.kasa_pre.specs.Allowed.{IsAllowed}
use Rattle.kasa_polymers.specs.StepGraph.{bond_pattern}
use Rattle.kasa_polymers.proofs.PointLemmas.{AreFiltered}
use Rattle.kasa_polymers.proofs.steps.points_of.Given as goal

abbrev pub invariant-loop-bond : goal.invariant-loop-bond
invariant-loop-bond g l = record { filtered : AreFiltered l.bonds (λ p. IsAllowed l.sig (g.R.Rows.tables l.rows) (bond_pattern l.sig p)) l.bond-index l.points.items }
