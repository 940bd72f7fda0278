use Rattle.std.proofs.Common.{◌≡◌, drop}
use Rattle.std.specs.Prelude.{slice_get}
use Rattle.kasa_compile.specs.Causes.{half_bonds}
use Rattle.kasa_compile.proofs.TouchedLemmas.{half_bonds_from}
use Rattle.kasa_compile.proofs.half_bonds.half_bond.Given as goal

abbrev pub invariant-loop-n : goal.invariant-loop-n
invariant-loop-n l = slice_get (half_bonds_from l.sides l.n (drop l.n l.sides.left)) 0 ≡ slice_get (half_bonds l.sides) 0
