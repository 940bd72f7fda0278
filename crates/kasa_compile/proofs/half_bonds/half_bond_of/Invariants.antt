use Rattle.std.proofs.Common.{◌≡◌, drop}
use Rattle.std.specs.Prelude.{slice_get}
use Rattle.kasa_compile.specs.Causes.{half_bonds_of}
use Rattle.kasa_compile.proofs.TouchedLemmas.{half_bonds_in}
use Rattle.kasa_compile.proofs.half_bonds.half_bond_of.Given as goal

abbrev pub invariant-loop-said : goal.invariant-loop-said
invariant-loop-said l = slice_get (half_bonds_in l.sides l.n (drop l.said-index l.said-items)) 0 ≡ slice_get (half_bonds_of l.sides l.n l.agent) 0
