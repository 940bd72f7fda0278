use Rattle.std.proofs.Common.{◌≡◌, Ok, take}
use Rattle.std.specs.List.{flat_map}
use Rattle.kasa_sig.specs.declared.names.Source.TheVariants.{Uses}
use Rattle.kasa_sig.specs.Mentions.{used_agent}
use Rattle.kasa_sig.specs.Outcome.{after}
use Rattle.kasa_sig.proofs.used.use_agents.Given as goal

abbrev pub invariant-loop-agent : goal.invariant-loop-agent
invariant-loop-agent l = after Uses l.fn.sig (flat_map (used_agent l.text) (take l.agent-index l.agents)) ≡ Ok l.sig
