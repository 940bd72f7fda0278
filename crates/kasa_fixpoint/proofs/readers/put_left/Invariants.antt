use Rattle.std.proofs.Common.{take}
use Rattle.kasa_graph.specs.Pattern.{types_of}
use Rattle.kasa_fixpoint.specs.Readers.{PutsOfTypes}
use Rattle.kasa_fixpoint.proofs.readers.put_left.Given as goal

abbrev pub invariant-loop-n : goal.invariant-loop-n
invariant-loop-n l = PutsOfTypes l.p (take l.n (types_of l.rule.left)) l.initial.lists.items l.lists.items
