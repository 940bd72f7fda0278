use Rattle.kasa_compile.proofs.SaidLemmas.{agent_on-plain}
use Rattle.kasa_compile.proofs.resolved.agent_on.Goals as goal

pub returns : goal.returns
returns c =
    rw (agent_on-plain c.args.side c.args.text.now c.args.sig.now c.args.agent.now, ← c.type_number-number.ensures, ← c.as_slice.ensures, ← c.in_ok-sites.ensures)
