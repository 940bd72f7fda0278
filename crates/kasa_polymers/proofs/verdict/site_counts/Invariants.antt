use Rattle.std.proofs.Common.{◌≡◌, take, map, length}
use Rattle.kasa_graph.specs.Signature.{state_counts}
use Rattle.kasa_polymers.specs.declared.map.Bond.{Bond}
use Rattle.kasa_polymers.proofs.verdict.site_counts.Given as goal

abbrev pub invariant-loop-bond : goal.invariant-loop-bond
invariant-loop-bond l = record { counts : l.counts.items ≡ map (λ (p : Bond). length (state_counts l.sig p.b)) (take l.bond-index l.points) }
