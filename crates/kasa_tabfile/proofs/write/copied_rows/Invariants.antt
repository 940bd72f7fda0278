use Rattle.std.proofs.Common.{◌≡◌, take}
use Rattle.kasa_families.specs.Table.{rows_of}
use Rattle.kasa_tabfile.proofs.write.copied_rows.Given as goal

abbrev pub invariant-loop-k : goal.invariant-loop-k
invariant-loop-k g l = l.copied.items ≡ take l.k (rows_of (g.R.Rows.tables l.rows) l.f)
