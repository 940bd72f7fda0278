use Rattle.std.proofs.Common.{append_assoc}
use Rattle.kasa_report.specs.Section.{line}
use Rattle.kasa_report.specs.DeadText.{rule_text}
use Rattle.kasa_report.proofs.dead.write_rule.Goals as goal

pub returns : goal.returns
unfolding line rule_text
returns c = rw (c.in_ok-push-2.ensures.items, c.in_ok-write_quoted.ensures, c.in_ok-write_number.ensures, c.in_ok-push.ensures.items, c.name.ensures) (simp append_assoc)
