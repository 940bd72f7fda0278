use Rattle.std.proofs.Common.{◌∙◌}
use Rattle.kasa_compile.proofs.rule.delete_agents.Goals as goal

pub loop-n-preserved : goal.loop-n-preserved
loop-n-preserved c = record {
  over = λ sig over. c.delete_agent.ensures.over sig (c.loop-n.invariant.over sig over);
  made = c.delete_agent.ensures.made ∙ c.loop-n.invariant.made;
  fresh = λ name g fresh. c.delete_agent.ensures.fresh name g (c.loop-n.invariant.fresh name g fresh);
}
