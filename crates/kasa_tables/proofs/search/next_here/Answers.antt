use Rattle.kasa_families.specs.Spot.{place_of}
use Rattle.kasa_tables.proofs.SearchLemmas.{ListedHere-of}
use Rattle.kasa_tables.proofs.search.next_here.Goals as goal

pub returns-in-Some : goal.returns-in-Some
returns-in-Some c =
    ListedHere-of c.args.column.now c.args.g.now c.args.family.now (place_of c.args.g.now c.args.family.now c.args.spot.now) c.args.c c.args.i c.in-Some.local c.in-Some.ensures c.args.from c.first_from.result (rw c.list.ensures at c.first_from.ensures)
