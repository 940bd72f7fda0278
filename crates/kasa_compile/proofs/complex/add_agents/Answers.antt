use Rattle.kasa_compile.proofs.UnjoinedLemmas.{AreUnjoined-[]}
use Rattle.kasa_compile.proofs.complex.add_agents.Goals as goal

pub loop-number-init : goal.loop-number-init
loop-number-init c = rw c.new-mixture.ensures (AreUnjoined-[] c.args.sig.now)
