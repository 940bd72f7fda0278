use Rattle.kasa_compile.specs.Cells.{HasMoreBonds, IsJoining, AreAgentsJoined}
use Rattle.kasa_compile.proofs.complex.join_agents.Given as goal

abbrev pub invariant-loop-cell : goal.invariant-loop-cell
invariant-loop-cell l = record { more : HasMoreBonds l.initial.mixture l.mixture; joining : IsJoining l.agents l.mixture; labels : AreAgentsJoined l.agents l.mixture l.cell }
