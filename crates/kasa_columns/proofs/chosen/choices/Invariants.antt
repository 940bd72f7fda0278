use Rattle.std.proofs.Common.{take}
use Rattle.std.specs.List.{AllZip}
use Rattle.kasa_columns.specs.Chosen.{IsColumnChoice}
use Rattle.kasa_columns.proofs.chosen.choices.Given as goal

abbrev pub invariant-loop-column : goal.invariant-loop-column
invariant-loop-column g l = AllZip (IsColumnChoice l.search) (take l.column-index l.search.columns) l.found.items
