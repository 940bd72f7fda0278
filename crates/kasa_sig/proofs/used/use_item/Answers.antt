use Rattle.kasa_sig.specs.declared.names.Source.TheVariants.{Uses}
use Rattle.kasa_sig.proofs.AfterLemmas.{after-none}
use Rattle.kasa_sig.proofs.used.use_item.Goals as goal

pub returns-in-Absent-clause-ok : goal.returns-in-Absent-clause-ok
returns-in-Absent-clause-ok c = rw c.in-Absent.is (after-none Uses c.args.sig.now)
