use Rattle.kasa_polymers.proofs.GatherLemmas.{left_there, made_there}
use Rattle.kasa_polymers.proofs.gather.type_of.Goals as goal

pub agent-requires : goal.agent-requires
agent-requires c = rw c.left.ensures.pattern (left_there c.args.rule.now _ _ c.in-Left.is c.requires)

pub made_type-requires : goal.made_type-requires
made_type-requires c = made_there c.args.rule.now _ _ c.in-Made.is c.requires
