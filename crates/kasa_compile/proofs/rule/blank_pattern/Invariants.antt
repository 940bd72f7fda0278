use Rattle.std.proofs.Common.{◌≡◌, map, take}
use Rattle.kasa_graph.specs.Pattern.{blank_node}
use Rattle.kasa_compile.specs.declared.said.AgentSaid.{AgentSaid as Said}
use Rattle.kasa_compile.proofs.rule.blank_pattern.Given as goal

abbrev pub invariant-loop-said : goal.invariant-loop-said
invariant-loop-said l = l.left ≡ map (blank_node l.sig) (map (λ (a : Said). a.agent) (take l.said-index l.agents))
