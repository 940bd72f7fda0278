use Rattle.kasa_columns.specs.Plan.{IsUnmet}
use Rattle.kasa_columns.proofs.PlanLemmas.{on_false, unmet-agrees}
use Rattle.kasa_columns.proofs.walk.try_choice.Goals as goal

pub returns-then-not-meets_all-clause-settled : goal.returns-then-not-meets_all-clause-settled
returns-then-not-meets_all-clause-settled g c agrees =
    let unmet : IsUnmet c.args.asked.now c.args.shown.now = on_false c.meets_all.result (λ yes. let no = c.if-not-meets_all.true in absurd cc) c.meets_all.ensures in
    absurd (unmet-agrees c.args.search.now.rule c.args.stands.now c.args.search.now.columns c.args.asked.now c.args.shown.now c.requires.asked unmet agrees)
