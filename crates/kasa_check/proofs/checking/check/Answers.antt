use Rattle.std.proofs.Common.{refl}
use Rattle.kasa_pre.specs.Closed.{IsClosed}
use Rattle.kasa_check.proofs.OneVerdict.{none_lacked}
use Rattle.kasa_check.proofs.ClosedLemmas.{none_left, first_initial, first_yielded, all_held, always_holds, never_fires}
use Rattle.kasa_check.proofs.checking.check.Given.{Over}
use Rattle.kasa_check.proofs.checking.check.Goals as goal
use Rattle.kasa_check.proofs.checking.check.Goals.{In-None, In-Some-2}

pub returns-in-Some-clause-closed : goal.returns-in-Some-clause-closed
returns-in-Some-clause-closed g c = (
  λ e. absurd cc,
  λ closed. absurd (none_lacked c.args.model.now (g.R.Rows.tables c.args.rows.now) closed c.in-Some.missing (rw c.in-Some.is at c.in_ok-missing.ensures.first).1),
)

pub returns-in-Some-clause-verdict : goal.returns-in-Some-clause-verdict
returns-in-Some-clause-verdict g c =
    first_initial c.args.model.now (g.R.Rows.tables c.args.rows.now) c.requires.tables c.in-Some.missing (rw c.in-Some.is at c.in_ok-missing.ensures.first)

pub returns-in-Some-2-clause-verdict : goal.returns-in-Some-2-clause-verdict
returns-in-Some-2-clause-verdict g c =
    let none = none_left c.in_ok-missing.field-0 c.in_default.not-Some in
    first_yielded c.args.model.now (g.R.Rows.tables c.args.rows.now) c.requires.tables c.in-Some-2.missing (rw (← none) at c.in_ok-missing.ensures.first) (rw c.in-Some-2.is at c.in_ok-missing-2.ensures.first)

pub returns-in-Some-2-clause-closed : goal.returns-in-Some-2-clause-closed
returns-in-Some-2-clause-closed g c = (
  λ e. absurd cc,
  λ closed. absurd (none_lacked c.args.model.now (g.R.Rows.tables c.args.rows.now) closed c.in-Some-2.missing (rw c.in-Some-2.is at c.in_ok-missing-2.ensures.first).1),
)

closed_here : (g : Over) (c : In-None g) → IsClosed c.args.model.now (g.R.Rows.tables c.args.rows.now)
closed_here g c =
    let none = none_left c.in_ok-missing.field-0 c.in_default.not-Some in
    all_held c.args.model.now (g.R.Rows.tables c.args.rows.now) c.requires.tables (rw (← none) at c.in_ok-missing.ensures.first) (rw c.in-None.is at c.in_ok-missing-2.ensures.first)

pub returns-in-None-clause-verdict : goal.returns-in-None-clause-verdict
returns-in-None-clause-verdict g c = closed_here g c

pub returns-in-None-clause-closed : goal.returns-in-None-clause-closed
returns-in-None-clause-closed g c = (λ e. closed_here g c, λ closed. refl)

pub returns-in-None-clause-lemmas : goal.returns-in-None-clause-lemmas
returns-in-None-clause-lemmas g c e =
    always_holds c.args.model.now (g.R.Rows.tables c.args.rows.now) c.requires.tables c.first_of_rules.ensures.valid (closed_here g c)

pub returns-in-None-clause-dead : goal.returns-in-None-clause-dead
returns-in-None-clause-dead g c e =
    never_fires c.args.model.now (g.R.Rows.tables c.args.rows.now) c.requires.tables c.first_of_rules.ensures.valid (closed_here g c)
