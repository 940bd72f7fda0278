use Rattle.std.proofs.Common.{◌≡◌}
use Rattle.kasa_compile.specs.Sides.{sides_of}
use Rattle.kasa_compile.proofs.sides.Sides.of.Given as goal

abbrev pub invariant-loop-pair : goal.invariant-loop-pair
invariant-loop-pair l = l.sides ≡ sides_of l.yielded
