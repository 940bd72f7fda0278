use Rattle.std.proofs.Common.{take}
use Rattle.kasa_families.specs.Family.{family_types}
use Rattle.kasa_fixpoint.specs.Readers.{PutsOfTypes}
use Rattle.kasa_fixpoint.proofs.readers.put_family.Given as goal

abbrev pub invariant-loop-n : goal.invariant-loop-n
invariant-loop-n l = PutsOfTypes l.p (take l.n (family_types l.family)) l.initial.lists.items l.lists.items
