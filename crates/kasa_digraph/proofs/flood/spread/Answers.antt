use Rattle.std.proofs.Common.{arith, refl}
use Rattle.kasa_digraph.proofs.Lists.{in_at}
use Rattle.kasa_digraph.proofs.Flooding.{spread_more, spread_all}
use Rattle.kasa_digraph.proofs.flood.spread.Goals as goal

pub mark-requires-clause-within : goal.mark-requires-clause-within
mark-requires-clause-within c =
    let h = c.requires.within _ (in_at c.args.points.now c.loop-y.y-index c.loop-y-test.true) in omega (arith, h, c.loop-y.invariant.spread.size)

pub loop-y-preserved : goal.loop-y-preserved
loop-y-preserved c = record { spread = spread_more c.args.points.now c.loop-y.y-index _ c.args.label _ _ _ _ _ _ c.loop-y-test.true refl c.loop-y.invariant.spread c.in_ok-mark.ensures }

pub returns : goal.returns
returns c = spread_all c.args.points.now c.loop-y.y-index c.args.label _ _ _ _ (omega arith) c.loop-y.invariant.spread
