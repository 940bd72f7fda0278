use Rattle.std.proofs.Common.{◌≡◌, length, take}
use Rattle.std.specs.List.{sum_by}
use Rattle.kasa_families.specs.Table.{Table}
use Rattle.kasa_report.proofs.sample.count_rows.Given as goal

abbrev pub invariant-loop-f : goal.invariant-loop-f
invariant-loop-f g l = l.count ≡ sum_by (λ (t : Table). length t.rows) (take l.f (g.R.Rows.tables l.rows))
