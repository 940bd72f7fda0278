use Rattle.std.proofs.Common.{codes, arith}
use Rattle.kasa_report.specs.ContactText.{state_text}
use Rattle.kasa_report.proofs.TextLemmas.{joined_more, joined_all}
use Rattle.kasa_report.proofs.map.write_spaced_states.Goals as goal

pub loop-k-preserved : goal.loop-k-preserved
loop-k-preserved c = joined_more (codes " ") (state_text c.args.sig.now) c.args.states.now c.loop-k.k c.index-states-k.result _ _ _ _ c.loop-k-test.true c.index-states-k.is c.loop-k.invariant c.in_ok-write_between.ensures c.in_ok-write_state.ensures

pub returns : goal.returns
returns c = joined_all (codes " ") (state_text c.args.sig.now) c.args.states.now c.loop-k.k _ _ (omega arith) c.loop-k.invariant
