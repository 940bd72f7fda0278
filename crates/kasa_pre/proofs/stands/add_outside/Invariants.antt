use Rattle.kasa_pre.proofs.OutsideLoops.{PlacedBelow}
use Rattle.kasa_pre.proofs.stands.add_outside.Given as goal

abbrev pub invariant-loop-i : goal.invariant-loop-i
invariant-loop-i l = PlacedBelow l.sig l.v l.stands l.fn.g l.i l.g l.places.items
