use Rattle.kasa_families.specs.Family.{shape_of}
use Rattle.kasa_columns.proofs.StandLemmas.{AreSoFar}
use Rattle.kasa_columns.proofs.stands.all_stands.Given as goal

abbrev pub invariant-loop-n : goal.invariant-loop-n
invariant-loop-n l = AreSoFar l.rule (shape_of l.family) l.n l.all.items
