use Rattle.std.proofs.Common.{◌≡◌, refl}
use Rattle.std.specs.Prelude.{Some, slice_get}
use Rattle.std.proofs.lemmas.Option.{slice_get_read}
use Rattle.kasa_families.specs.Table.{rows_of}
use Rattle.kasa_check.proofs.Ascending.{least_new, none_new, one_more}
use Rattle.kasa_check.proofs.inits.first_lacked.Goals as goal

pub returns-then-not-has : goal.returns-then-not-has
returns-then-not-has g c =
    let stored = rows_of (g.R.Rows.tables c.args.rows.now) c.args.f in
    let at : slice_get c.args.given.now c.loop-row.row-index ≡ Some c.row-item.result = slice_get_read c.args.given.now _ c.loop-row.row-index c.row-item.result refl c.loop-row-test.true c.row-item.is in
    let same : c.copy.result ≡ c.row-item.result = c.copy.ensures in
    least_new stored c.args.given.now c.requires.ascend c.loop-row.row-index c.loop-row.invariant c.copy.result (rw same at) (λ has. let yes = c.has.ensures.1 (rw same at has) in let no = c.if-not-has.true in absurd cc)

pub loop-row-preserved : goal.loop-row-preserved
loop-row-preserved g c =
    let stored = rows_of (g.R.Rows.tables c.args.rows.now) c.args.f in
    let at : slice_get c.args.given.now c.loop-row.row-index ≡ Some c.row-item.result = slice_get_read c.args.given.now _ c.loop-row.row-index c.row-item.result refl c.loop-row-test.true c.row-item.is in
    one_more stored c.args.given.now c.loop-row.row-index c.row-item.result at (c.has.ensures.0 (let no = c.if-not-has.false in cc)) c.loop-row.invariant

pub returns : goal.returns
returns g c =
    none_new (rows_of (g.R.Rows.tables c.args.rows.now) c.args.f) c.args.given.now c.requires.ascend c.loop-row.row-index c.loop-row.invariant c.loop-row-test.false
