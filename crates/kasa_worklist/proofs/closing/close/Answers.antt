use Rattle.std.proofs.Common.{arith}
use Rattle.kasa_worklist.proofs.TurnLemmas.{Grows-then, all_results_held, are_least, not_passed}
use Rattle.kasa_worklist.proofs.closing.close.Goals as goal

pub loop-agenda-preserved : goal.loop-agenda-preserved
loop-agenda-preserved g c =
    let turn = c.in_ok-turn.ensures.turn c.if-branch.true in
    let step = c.in_ok-turn.ensures.step c.if-branch.true in
    let low = turn.low in
    let high = turn.high in
    record {
      size = c.in_ok-turn.ensures.agenda;
      grows = Grows-then (g.S.System.relations c.args.system.now) c.args.tables.now c.loop-agenda.tables c.turn.new.tables c.loop-agenda.invariant.grows turn.grows;
      settled = turn.settled c.loop-agenda.invariant.settled;
      low = let before = c.loop-agenda.invariant.low in omega arith;
      high = let before = c.loop-agenda.invariant.high in omega arith;
    }

pub returns-clause-least : goal.returns-clause-least
returns-clause-least g c =
    let closed = all_results_held (g.S.System.relations c.args.system.now) c.loop-agenda.tables (rw (c.in_ok-turn.ensures.done c.if-branch.false) at c.loop-agenda.invariant.settled) in
    rw (c.in_ok-turn.ensures.tables c.if-branch.false) (are_least (g.S.System.relations c.args.system.now) c.args.tables.now c.loop-agenda.tables c.loop-agenda.invariant.grows closed)

pub returns-clause-few : goal.returns-clause-few
returns-clause-few g c =
    let closed = all_results_held (g.S.System.relations c.args.system.now) c.loop-agenda.tables (rw (c.in_ok-turn.ensures.done c.if-branch.false) at c.loop-agenda.invariant.settled) in
    not_passed (g.S.System.relations c.args.system.now) c.args.tables.now c.loop-agenda.tables c.loop-agenda.invariant.grows closed
