use Rattle.std.proofs.Common.{append_assoc}
use Rattle.kasa_report.specs.Section.{line}
use Rattle.kasa_report.specs.FaultText.{place_text}
use Rattle.kasa_report.proofs.faults.place_text.Goals as goal

pub returns : goal.returns
unfolding place_text line
returns c =
    rw (c.in_ok-push.ensures.items, c.in_ok-extend_from_slice.ensures.items, c.in_ok-write_number-2.ensures, c.in_ok-write_number.ensures, c.in_ok-text.ensures.items)
    (simp append_assoc)
