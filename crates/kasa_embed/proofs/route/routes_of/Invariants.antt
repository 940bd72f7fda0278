use Rattle.kasa_embed.proofs.RouteLemmas.{AreRoutesBelow}
use Rattle.kasa_embed.proofs.route.routes_of.Given as goal

abbrev pub invariant-loop-node : goal.invariant-loop-node
invariant-loop-node l = AreRoutesBelow l.pattern l.node l.routes.items
