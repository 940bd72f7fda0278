use Rattle.std.proofs.Common.{◌≡◌, ℕ, ◌<◌}
use Rattle.std.specs.Prelude.{Some, slice_get}
use Rattle.kasa_lists.specs.Lists.{Has}
use Rattle.kasa_families.specs.declared.row.Row.{Row}
use Rattle.kasa_families.specs.Table.{rows_of}
use Rattle.kasa_check.proofs.inits.first_lacked.Given as goal

abbrev pub invariant-loop-row : goal.invariant-loop-row
invariant-loop-row g l = (i : ℕ) (row : Row) → i < l.row-index → slice_get l.given i ≡ Some row → Has (rows_of (g.R.Rows.tables l.rows) l.f) row
