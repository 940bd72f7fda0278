use Rattle.std.proofs.lemmas.Result.{IfOk-weaker}
use Rattle.kasa_parallel.proofs.FoundLemmas.{AreNewResults-asks}
use Rattle.kasa_parallel.proofs.yielded.new_results.Goals as goal

pub returns-clause-results : goal.returns-clause-results
returns-clause-results g c =
    IfOk-weaker c.find.result _ _ (λ found are. AreNewResults-asks c.args.sig.now (g.R.Rows.tables c.args.rows.now) c.args.rule.now c.args.f c.requires.parallel c.search_for.result c.search_for.ensures c.args.most found.items are) c.find.ensures
