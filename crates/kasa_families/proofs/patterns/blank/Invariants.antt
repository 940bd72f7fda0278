use Rattle.std.proofs.Common.{◌≡◌, map, take}
use Rattle.kasa_graph.specs.Pattern.{blank_node}
use Rattle.kasa_families.proofs.patterns.blank.Given as goal

abbrev pub invariant-loop-agent : goal.invariant-loop-agent
invariant-loop-agent l = l.g ≡ map (blank_node l.sig) (take l.agent-index l.types)
