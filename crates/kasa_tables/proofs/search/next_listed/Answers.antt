use Rattle.std.proofs.Common.{arith}
use Rattle.kasa_families.specs.Spot.{place_of}
use Rattle.kasa_tables.proofs.SearchLemmas.{ListedBefore-next, ListedBefore-all}
use Rattle.kasa_tables.proofs.search.next_listed.Goals as goal

pub loop-i-preserved : goal.loop-i-preserved
loop-i-preserved c =
    rw c.lesser-next.ensures
    (ListedBefore-next c.args.column.now c.args.g.now c.args.family.now (place_of c.args.g.now c.args.family.now c.args.spot.now) c.args.c c.loop-i.i c.args.from c.loop-i.next c.next_here.result c.loop-i.invariant c.next_here.ensures)

pub returns : goal.returns
returns c =
    ListedBefore-all c.args.column.now c.args.g.now c.args.family.now (place_of c.args.g.now c.args.family.now c.args.spot.now) c.args.c c.loop-i.i c.args.from c.loop-i.next (let past = c.loop-i-test.false in let end = c.len-i-end.ensures in omega arith) c.loop-i.invariant
