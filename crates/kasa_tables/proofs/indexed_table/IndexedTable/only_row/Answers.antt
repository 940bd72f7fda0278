use Rattle.std.proofs.Common.{◌<◌, length, refl, arith, ◌∙◌, subst}
use Rattle.std.proofs.lemmas.Option.{slice_get_read}
use Rattle.std.proofs.lemmas.List.{length-set}
use Rattle.kasa_families.specs.Spot.{place_of}
use Rattle.kasa_families.specs.Table.{Table}
use Rattle.kasa_tables.specs.Index.{IsOnlyLocal}
use Rattle.kasa_tables.proofs.IndexLemmas.{AreOnly-set, IsOnlyMatch-taken}
use Rattle.kasa_tables.proofs.indexed_table.IndexedTable.only_row.Goals as goal

pub loop-c-preserved : goal.loop-c-preserved
loop-c-preserved c =
    let t = c.args.self.now in
    let place = place_of c.args.g.now t.family c.args.spot.now in
    let columns = c.as_slice-columns.result.now in
    let column = slice_get_read columns (length columns) c.loop-c.c c.index-columns-c.result refl c.loop-c-test.true c.index-columns-c.is in
    let same = c.as_slice-columns.ensures.value in
    let few : c.loop-c.c < length c.loop-c.locals = let long = c.loop-c.invariant.long in let narrow = (rw (← same) at c.self.invariant.narrow) in let low = c.loop-c-test.true in omega arith in
    let only = subst (λ (u : Table). IsOnlyLocal c.index-columns-c.result c.args.g.now u.family (place_of c.args.g.now u.family c.args.spot.now) c.loop-c.c c.in_ok-locals.field-0) c.self.view_is c.in_ok-locals.ensures in
    record {
      long = length-set c.loop-c.locals c.loop-c.c c.in_ok-locals.field-0 ∙ c.loop-c.invariant.long;
      only = AreOnly-set c.args.g.now t.family place columns c.loop-c.locals c.loop-c.c c.index-columns-c.result c.in_ok-locals.field-0 c.loop-c.invariant.only few column only;
    }

pub returns : goal.returns
returns c =
    let family = c.self.inside.family in
    let shown = c.as_slice-columns.result.now in
    rw (← c.self.view_is, c.new.ensures)
    (IsOnlyMatch-taken family c.self.inside.rows.keys c.self.inside.columns.items c.self.invariant c.args.g.now (place_of c.args.g.now family c.args.spot.now) shown c.as_slice-columns.ensures.value c.loop-c.locals c.loop-c.c c.loop-c-test.false
    c.loop-c.invariant.long (rw (← c.self.view_is) at c.requires.columns) (rw (← c.self.view_is) at c.loop-c.invariant.only))
