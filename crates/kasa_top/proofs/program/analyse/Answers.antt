use Rattle.std.proofs.Common.{arith}
use Rattle.kasa_rules.specs.Reached.{IsModel}
use Rattle.kasa_top.proofs.DueLemmas.{sound_report}
use Rattle.kasa_top.proofs.program.analyse.Goals as goal

pub returns-clause-report : goal.returns-clause-report
returns-clause-report g c =
    let valid : IsModel c.in_ok-model.model = rw c.model.view_is at c.model.invariant.0 in
    sound_report _ _ _ _ _ (omega arith) valid c.in_ok-model.ensures.model c.in_ok-tables.ensures.solved
    (rw c.tables.view_is at c.tables.invariant.0.few_rows)
    c.in_ok-report.ensures
