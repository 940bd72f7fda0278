use Rattle.kasa_digraph.proofs.Lists.{in_at}
use Rattle.kasa_digraph.proofs.cycle.has_component.Goals as goal

pub bounds-components-q : goal.bounds-components-q
bounds-components-q c = c.requires _ (in_at c.args.points.now c.loop-q.q-index c.loop-q-test.true)
