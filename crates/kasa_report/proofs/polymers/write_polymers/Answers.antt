use Rattle.std.proofs.Common.{append_assoc}
use Rattle.kasa_report.specs.Section.{line, section}
use Rattle.kasa_report.proofs.polymers.write_polymers.Goals as goal

pub returns : goal.returns
unfolding line section
returns c = rw (c.in_ok-push.ensures.items, c.in_ok-write_verdict.ensures, c.in_ok-write_line.ensures) (simp append_assoc)
