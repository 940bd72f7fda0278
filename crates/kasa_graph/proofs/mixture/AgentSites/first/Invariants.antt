use Rattle.std.proofs.Common.{◌≡◌, map, take}
use Rattle.kasa_graph.specs.Mixture.{first_site}
use Rattle.kasa_graph.specs.Signature.{state_counts}
use Rattle.kasa_graph.proofs.mixture.AgentSites.first.Given as goal

abbrev pub invariant-loop-site : goal.invariant-loop-site
invariant-loop-site l = l.items.items ≡ map first_site (take l.site (state_counts l.sig l.agent))
