use Rattle.kasa_report.specs.LemmasText.{row_text}
use Rattle.kasa_report.proofs.lemmas.write_row.Goals as goal

pub returns : goal.returns
unfolding row_text
returns c = rw (c.in_ok-pattern.ensures.pattern) at c.write_pattern_line.ensures
