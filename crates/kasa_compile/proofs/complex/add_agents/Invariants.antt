use Rattle.std.proofs.Common.{take}
use Rattle.kasa_compile.specs.Cells.{AreUnjoined}
use Rattle.kasa_compile.proofs.complex.add_agents.Given as goal

abbrev pub invariant-loop-number : goal.invariant-loop-number
invariant-loop-number l = AreUnjoined l.sig (take l.number l.agents) l.mixture
