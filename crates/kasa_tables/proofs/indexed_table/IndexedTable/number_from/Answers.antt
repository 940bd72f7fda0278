use Rattle.std.proofs.Common.{sym, arith}
use Rattle.kasa_tables.proofs.RowSets.{none_any, at_position}
use Rattle.kasa_tables.proofs.indexed_table.IndexedTable.number_from.Goals as goal

pub returns-in_err-k : goal.returns-in_err-k
returns-in_err-k c = rw (c.from_residual.ensures, ← c.self.view_is) (λ j above there. none_any c.self.inside.rows.keys c.args.row.now (sym c.in_err-k.ensures.found) (j, there))

pub returns-then-from-k : goal.returns-then-from-k
returns-then-from-k c =
    let here = at_position c.self.inside.rows.keys c.args.row.now c.in_ok-k.k (sym c.in_ok-k.ensures.index) in
    rw (← c.self.view_is) (c.if-from-k.true, here, λ j above below there. let e = c.self.invariant.different j c.in_ok-k.k c.args.row.now there here in omega arith)

pub returns-else-from-k : goal.returns-else-from-k
returns-else-from-k c =
    let here = at_position c.self.inside.rows.keys c.args.row.now c.in_ok-k.k (sym c.in_ok-k.ensures.index) in
    rw (← c.self.view_is) (λ j above there. let e = c.self.invariant.different j c.in_ok-k.k c.args.row.now there here in let low = c.if-from-k.false in omega arith)
