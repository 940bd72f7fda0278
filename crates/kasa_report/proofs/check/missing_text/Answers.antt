use Rattle.std.proofs.Common.{append_assoc}
use Rattle.kasa_report.specs.Section.{line}
use Rattle.kasa_report.specs.CheckText.{missing_text}
use Rattle.kasa_report.proofs.check.missing_text.Goals as goal

pub returns : goal.returns
unfolding missing_text line
returns c =
    rw (c.in_ok-write_pattern_line.ensures, c.in_ok-write_origin.ensures, c.in_ok-text.ensures.items, c.in_ok-pattern.ensures.pattern)
    (simp append_assoc)
