use Rattle.std.proofs.Common.{◌≡◌, take, []}
use Rattle.std.specs.List.{flat_map}
use Rattle.kasa_compile.specs.Passes.{name_faults}
use Rattle.kasa_compile.proofs.names.first_in_agents.Given as goal

abbrev pub invariant-loop-agent : goal.invariant-loop-agent
invariant-loop-agent l = flat_map (name_faults l.pass l.text l.sig) (take l.agent-index l.agents) ≡ []
