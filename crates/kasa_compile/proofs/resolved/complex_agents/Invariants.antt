use Rattle.std.proofs.Common.{◌≡◌, map, take}
use Rattle.kasa_compile.specs.declared.resolved.Side.TheVariants.{Left}
use Rattle.kasa_compile.specs.Said.{agent_on}
use Rattle.kasa_compile.proofs.resolved.complex_agents.Given as goal

abbrev pub invariant-loop-agent : goal.invariant-loop-agent
invariant-loop-agent l = l.said.items ≡ map (agent_on Left l.text l.sig) (take l.agent-index l.agents)
