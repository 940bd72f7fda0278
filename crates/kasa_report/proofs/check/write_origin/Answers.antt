use Rattle.std.proofs.lemmas.Result.{on_ok_weaker}
use Rattle.kasa_report.specs.CheckText.{origin_text}
use Rattle.kasa_report.proofs.CountLemmas.{two_behind}
use Rattle.kasa_report.proofs.check.write_origin.Goals as goal

pub returns-in_ok-extend_from_slice-in-Init : goal.returns-in_ok-extend_from_slice-in-Init
unfolding origin_text
returns-in_ok-extend_from_slice-in-Init c =
    rw (c.in-Init.is, ← c.init.view_is) (on_ok_weaker c.write_number.result (λ then. two_behind _ _ _ _ _ c.in_ok-extend_from_slice-in-Init.ensures.items then) c.write_number.ensures)

pub returns-in_ok-extend_from_slice-in-Rule : goal.returns-in_ok-extend_from_slice-in-Rule
unfolding origin_text
returns-in_ok-extend_from_slice-in-Rule c =
    rw (c.in-Rule.is, ← c.rule.view_is) (on_ok_weaker c.write_number-in-Rule.result (λ then. two_behind _ _ _ _ _ c.in_ok-extend_from_slice-in-Rule.ensures.items then) c.write_number-in-Rule.ensures)
