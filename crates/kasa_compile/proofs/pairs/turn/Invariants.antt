use Rattle.std.proofs.Common.{◌≡◌}
use Rattle.kasa_compile.specs.Said.{turned}
use Rattle.kasa_compile.proofs.pairs.turn.Given as goal

abbrev pub invariant-loop-pair : goal.invariant-loop-pair
invariant-loop-pair l = l.others.items ≡ turned l.yielded
