use Rattle.std.proofs.Common.{◌≡◌, ◌++◌, map, take}
use Rattle.kasa_report.specs.Section.{all_lines}
use Rattle.kasa_report.specs.LemmasText.{row_text}
use Rattle.kasa_report.proofs.lemmas.write_rows.Given as goal

abbrev pub invariant-loop-row : goal.invariant-loop-row
invariant-loop-row l = l.out.items ≡ l.initial.out.items ++ all_lines (map (row_text l.sig l.family) (take l.row-index l.rows))
