use Rattle.std.proofs.Common.{◌≡◌, take}
use Rattle.kasa_choose.specs.Own.{partners_among}
use Rattle.kasa_choose.proofs.parallel.partners_of.Given as goal

abbrev pub invariant-loop-bond : goal.invariant-loop-bond
invariant-loop-bond l = l.ports.items ≡ partners_among (take l.bond-index l.own) l.site
