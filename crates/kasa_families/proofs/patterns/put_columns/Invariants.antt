use Rattle.std.proofs.Common.{drop}
use Rattle.kasa_families.proofs.LeftLemmas.{ColumnsLeft}
use Rattle.kasa_families.proofs.patterns.put_columns.Given as goal

abbrev pub invariant-loop-k : goal.invariant-loop-k
invariant-loop-k l = ColumnsLeft l.fn.g l.g l.columns (drop l.k l.columns) l.locals (drop l.k l.locals)
