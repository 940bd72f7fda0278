use Rattle.std.proofs.Common.{[]}
use Rattle.kasa_tabfile.specs.Outcome.{TablesOf}
use Rattle.kasa_tabfile.proofs.ReaderLemmas.{given_ok, given_err}
use Rattle.kasa_tabfile.proofs.reader.read_tables.Goals as goal

outcome : (c : goal.After-finish) → TablesOf c.args.sig.now c.args.text.now c.finish.result
outcome c = c.finish.ensures c.args.sig.now c.args.text.now (c.in_ok-reader-2.ensures c.args.sig.now [] c.in_ok-reader.ensures)

pub returns-clause-ok : goal.returns-clause-ok
returns-clause-ok c = given_ok c.args.sig.now c.args.text.now c.finish.result (outcome c)

pub returns-clause-err : goal.returns-clause-err
returns-clause-err c = given_err c.args.sig.now c.args.text.now c.finish.result (outcome c)
