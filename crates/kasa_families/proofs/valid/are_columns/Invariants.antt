use Rattle.kasa_families.specs.Shape.{Nth}
use Rattle.kasa_families.specs.Local.{IsLocal}
use Rattle.kasa_families.specs.Family.{shape_of}
use Rattle.kasa_families.proofs.LeftLemmas.{PairsLeft}
use Rattle.kasa_families.proofs.valid.are_columns.Given as goal

abbrev pub invariant-loop-k : goal.invariant-loop-k
invariant-loop-k l = PairsLeft (λ s x. Nth (shape_of l.family).types s.node (λ a. IsLocal l.sig a s.site x)) (shape_of l.family).columns l.locals l.k
