use Rattle.kasa_compile.specs.Partial.{partial_sites}
use Rattle.kasa_compile.proofs.PairLemmas.{none_more, first_here}
use Rattle.kasa_compile.proofs.partial.partial_site.Goals as goal

pub loop-agent-preserved : goal.loop-agent-preserved
loop-agent-preserved c = none_more (partial_sites) c.args.agents.now c.loop-agent.agent-index c.agent-item.result c.agent-item.result c.loop-agent.invariant c.loop-agent-test.true c.agent-item.is c.in_default.ensures

pub returns-in-Some : goal.returns-in-Some
returns-in-Some c = first_here (partial_sites) c.args.agents.now c.loop-agent.agent-index c.agent-item.result c.agent-item.result c.in-Some.at c.loop-agent.invariant c.loop-agent-test.true c.agent-item.is c.in-Some.ensures
