use Rattle.std.proofs.Common.{arith}
use Rattle.kasa_columns.proofs.CollectLemmas.{open_unless, closed_if}
use Rattle.kasa_columns.proofs.collect.is_open.Goals as goal

pub returns-then-len-most-clause-open : goal.returns-then-len-most-clause-open
returns-then-len-most-clause-open c = open_unless c.args.found.now.keys c.args.most c.args.row.now c.contains.result (omega arith) c.contains.ensures

pub returns-then-len-most-clause-closed : goal.returns-then-len-most-clause-closed
returns-then-len-most-clause-closed c = closed_if c.args.found.now.keys c.args.most c.args.row.now c.contains.result c.contains.ensures
