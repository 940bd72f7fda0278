use Rattle.std.proofs.Common.{◌≡◌, drop}
use Rattle.kasa_compile.specs.Causes.{link_at}
use Rattle.kasa_compile.proofs.rights.link_at.Given as goal

abbrev pub invariant-loop-site : goal.invariant-loop-site
invariant-loop-site l = link_at l.sites l.number ≡ link_at (drop l.site-index l.sites) l.number
