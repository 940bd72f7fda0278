use Rattle.std.proofs.Common.{refl, arith, Some}
use Rattle.kasa_columns.proofs.ChosenLemmas.{IsNumbered, no_states, some_states}
use Rattle.kasa_columns.proofs.Pushing.{upto_next, upto_all, adds_one}
use Rattle.kasa_columns.proofs.chosen.possible_states.Goals as goal

pub returns-then-count-eq0 : goal.returns-then-count-eq0
returns-then-count-eq0 c =
    rw (c.in_ok-push.ensures.items, c.new-states.ensures.items)
    (no_states c.args.sig.now c.args.agent c.args.site c.states-count.result c.requires c.states-count.ensures.count c.if-count-eq0.true)

pub loop-u-preserved : goal.loop-u-preserved
loop-u-preserved c =
    rw c.in_ok-push-2.ensures.items
    (upto_next (IsNumbered c.states-count.result) _ c.loop-u.u c.loop-u.states.items c.loop-u.invariant _ (adds_one (IsNumbered c.states-count.result) c.loop-u.states.items c.loop-u.u (Some c.loop-u.u) (refl, c.loop-u-test.true) (λ state q. q.0)))

pub returns : goal.returns
returns c =
    some_states c.args.sig.now c.args.agent c.args.site c.states-count.result c.loop-u.states.items c.requires c.states-count.ensures.count c.if-count-eq0.false
    (rw c.new-states.ensures.items at (upto_all (IsNumbered c.states-count.result) _ c.loop-u.u c.loop-u.states.items (λ u state q. let less = q.1 in let past = c.loop-u-test.false in omega arith) c.loop-u.invariant))
