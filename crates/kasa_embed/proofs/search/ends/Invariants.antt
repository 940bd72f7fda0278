use Rattle.std.proofs.Common.{◌≡◌, take}
use Rattle.std.specs.Prelude.{Some}
use Rattle.kasa_embed.specs.Route.{ends_of}
use Rattle.kasa_embed.proofs.search.ends.Given as goal

abbrev pub invariant-loop-route : goal.invariant-loop-route
invariant-loop-route l = ends_of l.mixture l.first (take l.route-index l.routes) ≡ Some l.cells.items
