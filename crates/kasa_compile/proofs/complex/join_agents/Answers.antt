use Rattle.kasa_compile.proofs.JoiningLemmas.{HasMoreBonds-then, AreAgentsJoined-next}
use Rattle.kasa_compile.proofs.complex.join_agents.Goals as goal

pub loop-cell-preserved : goal.loop-cell-preserved
loop-cell-preserved c = record {
  more = HasMoreBonds-then c.args.mixture.now c.loop-cell.mixture c.join_agent.new.mixture c.loop-cell.invariant.more c.join_agent.ensures.more;
  joining = c.join_agent.ensures.joining;
  labels = AreAgentsJoined-next c.args.agents.now c.loop-cell.mixture c.join_agent.new.mixture c.loop-cell.cell c.join_agent.ensures.more c.loop-cell.invariant.labels c.join_agent.ensures.labels;
}
