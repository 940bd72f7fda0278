use Rattle.std.proofs.Common.{ap, sym}
use Rattle.kasa_rules.specs.declared.model.Model.{Model}
use Rattle.kasa_check.proofs.PairLemmas.{no_yielded, first_yielded, not_acting}
use Rattle.kasa_check.proofs.rules.first_yielded.Goals as goal

pub returns-then-not-acts_on : goal.returns-then-not-acts_on
returns-then-not-acts_on g c =
    not_acting c.args.model.now (g.R.Rows.tables c.args.rows.now) c.requires.tables c.args.f c.in-Some.family.now (sym c.in-Some.ensures) c.args.number c.args.rule.now c.requires.ruled c.requires.over
    (λ acts. let yes = c.acts_on.ensures.1 acts in let no = c.if-not-acts_on.true in absurd cc)

pub missing-requires-clause-over : goal.missing-requires-clause-over
missing-requires-clause-over g c =
    rw (ap (λ (m : Model). m.sig) c.model.view_is) c.requires.over

pub returns-in-None : goal.returns-in-None
returns-in-None g c =
    let told = rw (ap (λ (m : Model). m.sig) c.model.view_is, c.in-None.is) at c.in_ok-missing.ensures in
    no_yielded c.args.model.now (g.R.Rows.tables c.args.rows.now) c.requires.tables c.args.f c.in-Some.family.now (sym c.in-Some.ensures) c.args.number c.args.rule.now c.requires.ruled told

pub returns-in-Some-2 : goal.returns-in-Some-2
returns-in-Some-2 g c =
    let told = rw (ap (λ (m : Model). m.sig) c.model.view_is, c.in-Some-2.is) at c.in_ok-missing.ensures in
    first_yielded c.args.model.now (g.R.Rows.tables c.args.rows.now) c.requires.tables c.args.f c.in-Some.family.now (sym c.in-Some.ensures) c.args.number c.args.rule.now c.requires.ruled c.in-Some-2.row told
