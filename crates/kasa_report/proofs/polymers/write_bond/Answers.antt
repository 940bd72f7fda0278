use Rattle.std.proofs.Common.{◌∙◌, append_assoc}
use Rattle.kasa_report.specs.PolymersText.{bond_text}
use Rattle.kasa_report.proofs.TableLemmas.{on_ok_then}
use Rattle.kasa_report.proofs.polymers.write_bond.Goals as goal

pub returns : goal.returns
unfolding bond_text
returns c = on_ok_then c.write_site-2.result
    (λ written. written ∙ rw (c.in_ok-push-3.ensures.items, c.in_ok-write_type-2.ensures, c.in_ok-push-2.ensures.items, c.in_ok-write_site.ensures, c.in_ok-push.ensures.items, c.in_ok-write_type.ensures) (simp append_assoc))
    c.write_site-2.ensures
