use Rattle.std.proofs.Common.{append_assoc, [], ◌∷◌}
use Rattle.kasa_report.specs.Section.{line}
use Rattle.kasa_report.proofs.write.write_line.Goals as goal

pub returns : goal.returns
unfolding line
returns c = rw (c.in_ok-push.ensures.items, c.in_ok-extend_from_slice.ensures.items) (append_assoc c.args.out.now.items c.args.text.now (10 ∷ []))
