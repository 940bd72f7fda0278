use Rattle.std.proofs.Common.{◌≡◌, take, []}
use Rattle.kasa_compile.specs.Causes.{mismatches}
use Rattle.kasa_compile.proofs.rights.mismatch.Given as goal

abbrev pub invariant-loop-pair : goal.invariant-loop-pair
invariant-loop-pair l = mismatches (take l.pair-index l.pairs) ≡ []
