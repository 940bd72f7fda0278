use Rattle.std.proofs.lemmas.Result.{IfOk-weaker}
use Rattle.kasa_pre.proofs.StepLemmas.{Yields-fire}
use Rattle.kasa_columns.proofs.FoundLemmas.{AreResults-found}
use Rattle.kasa_columns.proofs.yielded.results.Goals as goal

pub returns-clause-results : goal.returns-clause-results
returns-clause-results g c =
    IfOk-weaker c.listed.result _ _ (λ rows same. rw same (AreResults-found c.args.sig.now (g.R.Rows.tables c.args.rows.now) c.args.rule.now c.args.f c.in_ok-found.found.keys c.args.most c.in_ok-found.ensures.found c.in_ok-found.ensures.settled)) c.listed.ensures

pub returns-clause-follows : goal.returns-clause-follows
returns-clause-follows g c =
    IfOk-weaker c.listed.result _ _ (λ rows same few m cells family row over cover there numbered valid occurs.
    let all = AreResults-found c.args.sig.now (g.R.Rows.tables c.args.rows.now) c.args.rule.now c.args.f c.in_ok-found.found.keys c.args.most c.in_ok-found.ensures.found c.in_ok-found.ensures.settled in
    rw same (all.complete (rw same at few) row (record { family = family; numbered = numbered; valid = valid; yielded = Yields-fire c.args.sig.now (g.R.Rows.tables c.args.rows.now) m c.requires.tables over cover c.args.rule.now cells c.requires.over there family row valid occurs }))) c.listed.ensures
