use Rattle.std.proofs.Common.{◌≡◌, take, []}
use Rattle.kasa_compile.specs.Causes.{bad_rights}
use Rattle.kasa_compile.proofs.rights.bad_right.Given as goal

abbrev pub invariant-loop-pair : goal.invariant-loop-pair
invariant-loop-pair l = bad_rights (take l.pair-index l.pairs) ≡ []
