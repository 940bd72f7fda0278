use Rattle.std.proofs.Common.{◌≡◌, map, take}
use Rattle.kasa_compile.specs.Said.{site_on}
use Rattle.kasa_compile.proofs.resolved.sites_on.Given as goal

abbrev pub invariant-loop-site : goal.invariant-loop-site
invariant-loop-site l = l.items.items ≡ map (site_on l.side l.text l.sig l.agent) (take l.site-index l.sites)
