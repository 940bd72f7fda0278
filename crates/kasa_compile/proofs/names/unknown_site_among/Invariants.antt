use Rattle.std.proofs.Common.{◌≡◌, take, []}
use Rattle.std.specs.List.{flat_map}
use Rattle.kasa_compile.specs.Names.{unknown_sites_at}
use Rattle.kasa_compile.proofs.names.unknown_site_among.Given as goal

abbrev pub invariant-loop-site : goal.invariant-loop-site
invariant-loop-site l = flat_map (unknown_sites_at l.text l.sig l.agent) (take l.site-index l.sites) ≡ []
