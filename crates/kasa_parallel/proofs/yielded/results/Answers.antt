use Rattle.std.proofs.lemmas.Result.{IfOk-weaker}
use Rattle.kasa_pre.proofs.StepLemmas.{Yields-fire}
use Rattle.kasa_parallel.proofs.FoundLemmas.{AreResults-asks}
use Rattle.kasa_parallel.proofs.yielded.results.Goals as goal

pub returns-clause-results : goal.returns-clause-results
returns-clause-results g c =
    IfOk-weaker c.find.result _ _ (λ found are. AreResults-asks c.args.sig.now (g.R.Rows.tables c.args.rows.now) c.args.rule.now c.args.f c.requires.parallel c.search_for.result c.search_for.ensures c.args.most found.items are) c.find.ensures

pub returns-clause-follows : goal.returns-clause-follows
returns-clause-follows g c =
    IfOk-weaker c.find.result _ _ (λ found are few m cells family row over cover there numbered valid occurs.
    let all = AreResults-asks c.args.sig.now (g.R.Rows.tables c.args.rows.now) c.args.rule.now c.args.f c.requires.parallel c.search_for.result c.search_for.ensures c.args.most found.items are in
    all.complete few row (record { family = family; numbered = numbered; valid = valid; yielded = Yields-fire c.args.sig.now (g.R.Rows.tables c.args.rows.now) m c.requires.tables over cover c.args.rule.now cells c.requires.over there family row valid occurs })) c.find.ensures
