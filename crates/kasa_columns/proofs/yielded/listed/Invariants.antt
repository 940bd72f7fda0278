use Rattle.std.proofs.Common.{◌≡◌, ◌++◌}
use Rattle.kasa_columns.proofs.yielded.listed.Given as goal

abbrev pub invariant-loop-row : goal.invariant-loop-row
invariant-loop-row l = l.rows.items ++ l.row-iterator ≡ l.initial.row-iterator
