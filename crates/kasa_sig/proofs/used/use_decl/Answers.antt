use Rattle.kasa_sig.specs.declared.names.Source.TheVariants.{Uses}
use Rattle.kasa_sig.proofs.AfterLemmas.{after-none}
use Rattle.kasa_sig.proofs.used.use_decl.Goals as goal

pub returns-in-Agent-clause-ok : goal.returns-in-Agent-clause-ok
returns-in-Agent-clause-ok c = rw c.in-Agent.is (after-none Uses c.args.sig.now)
