use Rattle.std.proofs.Common.{◌≡◌, take, []}
use Rattle.std.specs.List.{flat_map}
use Rattle.kasa_compile.specs.Partial.{partial_site}
use Rattle.kasa_compile.proofs.partial.partial_site_among.Given as goal

abbrev pub invariant-loop-site : goal.invariant-loop-site
invariant-loop-site l = flat_map partial_site (take l.site-index l.sites) ≡ []
