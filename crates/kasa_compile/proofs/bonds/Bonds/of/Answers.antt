use Rattle.std.proofs.lemmas.List.{take_all}
use Rattle.kasa_compile.proofs.IndexLemmas.{IsContinued-agent, AreBondsOf-of, ends_of-none}
use Rattle.kasa_compile.proofs.bonds.Bonds.of.Goals as goal

pub loop-number-init : goal.loop-number-init
loop-number-init c = λ label. rw c.new.ensures.empty (ends_of-none label)

pub loop-number-preserved : goal.loop-number-preserved
loop-number-preserved c = IsContinued-agent _ _ c.loop-number.number c.args.agents.now c.index-agents-number.result c.loop-number.invariant c.loop-number-test.true c.index-agents-number.is (rw c.sites_of.ensures at c.in_ok-note_agent.ensures)

pub returns : goal.returns
returns c = AreBondsOf-of c.args.agents.now c.loop-number.bonds (rw (take_all c.loop-number.number c.args.agents.now c.loop-number-test.false) at c.loop-number.invariant)
