use Rattle.std.proofs.Common.{append_assoc}
use Rattle.kasa_report.specs.Section.{line}
use Rattle.kasa_report.proofs.lemmas.write_pattern_line.Goals as goal

pub returns : goal.returns
unfolding line
returns c = rw (c.in_ok-push.ensures.items, c.in_ok-write_pattern.ensures.text, c.in_ok-extend_from_slice.ensures.items) (simp append_assoc)
