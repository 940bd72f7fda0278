use Rattle.kasa_digraph.proofs.Lists.{in_at}
use Rattle.kasa_digraph.proofs.weigh.shares.Goals as goal

pub bounds-group-q : goal.bounds-group-q
bounds-group-q c = c.requires.grouped _ (in_at c.args.next.now c.loop-q.q-index c.loop-q-test.true)
