use Rattle.std.proofs.Common.{◌∙◌, append_assoc}
use Rattle.kasa_report.proofs.TableLemmas.{on_ok_then}
use Rattle.kasa_report.proofs.polymers.write_verdict.Goals as goal

pub returns-in_ok-extend_from_slice-in-Cycle : goal.returns-in_ok-extend_from_slice-in-Cycle
returns-in_ok-extend_from_slice-in-Cycle c = on_ok_then c.write_bonds.result
    (λ written. written ∙ rw (c.in_ok-extend_from_slice-in-Cycle.ensures.items, c.as_slice.ensures, c.in-Cycle.is) (append_assoc c.args.out.now.items _ _))
    c.write_bonds.ensures
