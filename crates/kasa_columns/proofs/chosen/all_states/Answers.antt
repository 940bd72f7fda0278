use Rattle.kasa_columns.proofs.ChosenLemmas.{IsStated, states_all}
use Rattle.kasa_columns.proofs.Pushing.{pushed_next, pushed_all, from_all, both_ways}
use Rattle.kasa_columns.proofs.chosen.all_states.Goals as goal

pub loop-state-preserved : goal.loop-state-preserved
loop-state-preserved c =
    pushed_next (IsStated c.in_ok-links.links.items) _ c.deref-state-items.result.now c.loop-state.state-index c.loop-state.items.items _ c.state-item.result c.loop-state-test.true c.state-item.is c.loop-state.invariant (rw c.as_slice.ensures.value at c.in_ok-push_linked.ensures)

pub returns : goal.returns
returns c =
    let all = from_all (IsStated c.in_ok-links.links.items) c.deref-state-items.result.now c.loop-state.items.items (rw c.new-items.ensures.items at (pushed_all (IsStated c.in_ok-links.links.items) _ c.deref-state-items.result.now c.loop-state.state-index c.loop-state.items.items c.loop-state-test.false c.loop-state.invariant)) in
    let states = rw c.deref-state-items.ensures.value at all in
    λ l. both_ways (states l) (states_all c.args.sig.now c.args.agent c.args.site c.in_ok-states.states.items c.in_ok-links.links.items c.in_ok-states.ensures c.in_ok-links.ensures l)
