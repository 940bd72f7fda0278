use Rattle.kasa_families.specs.Spot.{place_of}
use Rattle.kasa_tables.proofs.SearchLemmas.{IsOnlyLocal-found}
use Rattle.kasa_tables.proofs.search.only_local.Goals as goal

pub returns-in-None : goal.returns-in-None
returns-in-None c =
    IsOnlyLocal-found c.args.column.now c.args.g.now c.args.family.now (place_of c.args.g.now c.args.family.now c.args.spot.now) c.args.c c.in_ok-i.i c.local.result c.local.ensures c.in_ok-i.ensures.least c.in-None.ensures.least
