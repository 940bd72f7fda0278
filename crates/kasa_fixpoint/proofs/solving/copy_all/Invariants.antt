use Rattle.std.proofs.Common.{◌≡◌, take}
use Rattle.kasa_fixpoint.proofs.solving.copy_all.Given as goal

abbrev pub invariant-loop-family : goal.invariant-loop-family
invariant-loop-family l = l.copies.items ≡ take l.family-index l.families
