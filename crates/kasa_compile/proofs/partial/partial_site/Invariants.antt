use Rattle.std.proofs.Common.{◌≡◌, take, []}
use Rattle.std.specs.List.{flat_map}
use Rattle.kasa_compile.specs.Partial.{partial_sites}
use Rattle.kasa_compile.proofs.partial.partial_site.Given as goal

abbrev pub invariant-loop-agent : goal.invariant-loop-agent
invariant-loop-agent l = flat_map (partial_sites) (take l.agent-index l.agents) ≡ []
