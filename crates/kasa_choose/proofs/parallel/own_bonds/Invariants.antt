use Rattle.std.proofs.Common.{◌≡◌, take}
use Rattle.std.specs.Prelude.{nat_eq}
use Rattle.std.specs.List.{filter}
use Rattle.kasa_choose.proofs.parallel.own_bonds.Given as goal

abbrev pub invariant-loop-bond : goal.invariant-loop-bond
invariant-loop-bond l = l.own.items ≡ filter (λ bond. nat_eq bond.a l.agent) (take l.bond-index l.bonds)
