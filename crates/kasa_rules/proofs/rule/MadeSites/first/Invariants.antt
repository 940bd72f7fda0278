use Rattle.std.proofs.Common.{◌≡◌, map, take}
use Rattle.kasa_rules.specs.Draft.{new_site}
use Rattle.kasa_graph.specs.Signature.{state_counts}
use Rattle.kasa_rules.proofs.rule.MadeSites.first.Given as goal

abbrev pub invariant-loop-site : goal.invariant-loop-site
invariant-loop-site l = l.items.items ≡ map new_site (take l.site (state_counts l.sig l.agent))
