use Rattle.std.proofs.Common.{◌≡◌, take, map}
use Rattle.kasa_polymers.specs.declared.map.Bond.{Bond}
use Rattle.kasa_polymers.proofs.verdict.sites_of_points.Given as goal

abbrev pub invariant-loop-bond : goal.invariant-loop-bond
invariant-loop-bond l = record { sites : l.sites.items ≡ map (λ (p : Bond). p.x) (take l.bond-index l.points) }
