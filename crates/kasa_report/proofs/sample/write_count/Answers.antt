use Rattle.kasa_report.specs.Section.{line}
use Rattle.kasa_report.proofs.CountLemmas.{behind}
use Rattle.kasa_report.proofs.sample.write_count.Goals as goal

pub returns : goal.returns
unfolding line
returns c = behind _ _ _ _ _ _ _ c.in_ok-extend_from_slice.ensures.items c.in_ok-write_number.ensures c.in_ok-push.ensures.items
