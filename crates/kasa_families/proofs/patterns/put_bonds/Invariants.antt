use Rattle.std.proofs.Common.{drop}
use Rattle.kasa_families.specs.Family.{shape_of}
use Rattle.kasa_families.proofs.LeftLemmas.{BondsLeft}
use Rattle.kasa_families.proofs.patterns.put_bonds.Given as goal

abbrev pub invariant-loop-k : goal.invariant-loop-k
invariant-loop-k l = BondsLeft l.fn.g l.g (shape_of l.family).bonds (drop l.k (shape_of l.family).bonds)
