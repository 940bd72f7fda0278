use Rattle.kasa_digraph.proofs.Lists.{in_at}
use Rattle.kasa_digraph.proofs.search.are_done.Goals as goal

pub bounds-done-q : goal.bounds-done-q
bounds-done-q c = c.requires _ (in_at c.args.next.now c.loop-q.q-index c.loop-q-test.true)
