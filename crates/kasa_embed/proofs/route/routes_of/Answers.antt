use Rattle.std.proofs.Common.{arith}
use Rattle.kasa_embed.proofs.RouteLemmas.{near_of_connected, AreRoutesBelow-push}
use Rattle.kasa_embed.proofs.route.routes_of.Goals as goal

pub unreachable-requires : goal.unreachable-requires
unreachable-requires c = c.in_default.ensures.none (near_of_connected c.args.pattern.now c.requires.few c.requires.connected c.loop-node.node (omega arith) (omega arith))

pub loop-node-preserved : goal.loop-node-preserved
loop-node-preserved c = rw c.push-in-loop-node.ensures.items (AreRoutesBelow-push _ _ _ _ c.loop-node.invariant c.in-Some.ensures.found)
