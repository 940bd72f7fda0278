use Rattle.std.proofs.Common.{◌<◌, length, refl, arith}
use Rattle.std.proofs.lemmas.Option.{slice_get_read}
use Rattle.kasa_families.specs.Spot.{place_of}
use Rattle.kasa_tables.specs.Index.{Listed, AgreesThere, locals_of}
use Rattle.kasa_tables.specs.Post.{has_at}
use Rattle.kasa_tables.proofs.NumberLemmas.{numbers-rising, IsLeastFrom-same}
use Rattle.kasa_tables.proofs.IndexLemmas.{post-numbers, Listed-there}
use Rattle.kasa_tables.proofs.indexed_table.IndexedTable.next_there.Goals as goal

pub next_listed-requires-clause-rising : goal.next_listed-requires-clause-rising
next_listed-requires-clause-rising c = λ l.
    let columns = c.self.inside.columns.items in
    let within : c.args.c < length columns = let column = (rw (← c.self.view_is) at c.requires.column) in let width = c.self.invariant.width in omega arith in
    let at_c = slice_get_read columns (length columns) c.args.c c.index.result.now refl within c.index.ensures in
    rw (post-numbers c.self.inside.family c.self.inside.rows.keys columns c.self.invariant c.args.c c.index.result.now l at_c) (numbers-rising (λ row. has_at c.args.c l (locals_of row)) 0 c.self.inside.rows.keys)

pub returns : goal.returns
returns c =
    let columns = c.self.inside.columns.items in
    let family = c.self.inside.family in
    let place = place_of c.args.g.now family c.args.spot.now in
    let within : c.args.c < length columns = let column = (rw (← c.self.view_is) at c.requires.column) in let width = c.self.invariant.width in omega arith in
    let at_c = slice_get_read columns (length columns) c.args.c c.index.result.now refl within c.index.ensures in
    rw (← c.self.view_is)
    (IsLeastFrom-same (Listed c.index.result.now c.args.g.now family place c.args.c) (AgreesThere c.self.inside.rows.keys c.args.g.now family place c.args.c) c.args.from c.next_listed.result
    (Listed-there family c.self.inside.rows.keys columns c.self.invariant c.args.g.now place c.args.c c.index.result.now at_c) c.next_listed.ensures)
