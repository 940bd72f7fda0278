use Rattle.std.proofs.Common.{◌≡◌, take}
use Rattle.std.specs.List.{flat_map}
use Rattle.kasa_compile.specs.Labels.{labels_in}
use Rattle.kasa_compile.proofs.label_counts.first_odd_of_agents.Given as goal

abbrev pub invariant-loop-agent : goal.invariant-loop-agent
invariant-loop-agent l = l.labels.items ≡ flat_map (labels_in l.side) (take l.agent-index l.agents)
