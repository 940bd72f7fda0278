use Rattle.std.proofs.Common.{ap}
use Rattle.kasa_columns.specs.Ask.{Ask, stored}
use Rattle.kasa_columns.proofs.CollectLemmas.{GoesOn-kept, settled_kept, new_kept}
use Rattle.kasa_columns.proofs.collect.keep.Goals as goal

pub returns-clause-on : goal.returns-clause-on
returns-clause-on g c =
    let aim = ap (λ (a : Ask). a.aim) c.search.view_is in
    rw (c.in_ok-insert.ensures.keys, c.make_room.ensures, aim, new_kept (stored c.args.search.now) c.args.search.now.aim c.args.found.now.keys c.args.row c.requires.wanted)
    (GoesOn-kept c.args.search.now c.args.found.now.keys c.args.row c.requires.wanted c.requires.result)

pub returns-clause-settled : goal.returns-clause-settled
returns-clause-settled g c =
    let aim = ap (λ (a : Ask). a.aim) c.search.view_is in
    rw (c.in_ok-insert.ensures.keys, c.make_room.ensures, aim, new_kept (stored c.args.search.now) c.args.search.now.aim c.args.found.now.keys c.args.row c.requires.wanted)
    (settled_kept (stored c.args.search.now) c.args.search.now.aim c.args.found.now.keys c.args.row)
