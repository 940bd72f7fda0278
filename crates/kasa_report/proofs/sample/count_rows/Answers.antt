use Rattle.std.proofs.Common.{◌+◌, ◌<◌, length, arith}
use Rattle.kasa_report.proofs.CountLemmas.{rows_more, rows_so_far}
use Rattle.kasa_report.proofs.sample.count_rows.Goals as goal

pub overflow_add-count : goal.overflow_add-count
overflow_add-count g c =
    let tables = g.R.Rows.tables c.args.rows.now in
    let within : c.loop-f.f < length tables = omega (arith, c.loop-f-test.true, c.families-f-end.ensures.count) in
    let next = rows_more tables c.loop-f.f within in
    let part = rows_so_far tables (c.loop-f.f + 1) in
    omega (arith, next, part, c.loop-f.invariant, c.rows-count.ensures, c.families-f-end.ensures.shaped.few_rows)

pub loop-f-preserved : goal.loop-f-preserved
loop-f-preserved g c =
    let tables = g.R.Rows.tables c.args.rows.now in
    let within : c.loop-f.f < length tables = omega (arith, c.loop-f-test.true, c.families-f-end.ensures.count) in
    let next = rows_more tables c.loop-f.f within in
    omega (arith, next, c.loop-f.invariant, c.rows-count.ensures)
