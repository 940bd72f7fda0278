use Rattle.std.proofs.Common.{◌≡◌, take, []}
use Rattle.kasa_compile.specs.Names.{twice_behind}
use Rattle.kasa_compile.proofs.names.site_twice.Given as goal

abbrev pub invariant-loop-number : goal.invariant-loop-number
invariant-loop-number l = twice_behind l.text [] (take l.number l.sites) ≡ []
