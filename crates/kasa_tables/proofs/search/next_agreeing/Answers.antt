use Rattle.std.proofs.Common.{arith}
use Rattle.kasa_families.specs.Spot.{place_of}
use Rattle.kasa_tables.proofs.SearchLemmas.{no_more, none_past}
use Rattle.kasa_tables.proofs.search.next_agreeing.Goals as goal

pub loop-i-preserved : goal.loop-i-preserved
loop-i-preserved c =
    no_more c.args.column.now c.args.g.now c.args.family.now (place_of c.args.g.now c.args.family.now c.args.spot.now) c.args.c c.args.from c.loop-i.i (λ h. let yes = c.agrees_here.ensures.1 h in let no = c.if-agrees_here.false in absurd cc) c.loop-i.invariant

pub returns-clause-least : goal.returns-clause-least
returns-clause-least c =
    none_past c.args.column.now c.args.g.now c.args.family.now (place_of c.args.g.now c.args.family.now c.args.spot.now) c.args.c c.args.from c.loop-i.i (let past = c.loop-i-test.false in let end = c.len-i-end.ensures in omega arith) c.loop-i.invariant
