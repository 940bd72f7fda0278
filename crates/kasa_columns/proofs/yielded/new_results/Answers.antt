use Rattle.std.proofs.lemmas.Result.{IfOk-weaker}
use Rattle.kasa_columns.proofs.FoundLemmas.{AreNewResults-found}
use Rattle.kasa_columns.proofs.yielded.new_results.Goals as goal

pub returns-clause-results : goal.returns-clause-results
returns-clause-results g c =
    IfOk-weaker c.listed.result _ _ (λ rows same. rw same (AreNewResults-found c.args.sig.now (g.R.Rows.tables c.args.rows.now) c.args.rule.now c.args.f c.in_ok-found.found.keys c.args.most c.in_ok-found.ensures.found c.in_ok-found.ensures.settled)) c.listed.ensures
