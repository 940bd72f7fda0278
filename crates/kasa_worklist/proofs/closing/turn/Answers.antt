use Rattle.std.proofs.Common.{refl}
use Rattle.kasa_worklist.proofs.TurnLemmas.{IsTurn-still, IsTurn-grown}
use Rattle.kasa_worklist.proofs.closing.turn.Goals as goal

pub put_all-requires : goal.put_all-requires
put_all-requires g c k has =
    let takes = c.in-Some.ensures.some c.in-Some.pair refl in
    rw (takes.size, c.requires.agenda) ((c.readers.ensures.exact k).0 has).0

pub returns-in_ok-put_all-clause-turn : goal.returns-in_ok-put_all-clause-turn
returns-in_ok-put_all-clause-turn g c e =
    let takes = c.in-Some.ensures.some c.in-Some.pair refl in
    IsTurn-grown (g.S.System.relations c.args.system.now) c.requires.lawful c.in-Some.pair (rw c.requires.agenda at takes.within) c.args.agenda.now c.take.new.self takes c.args.tables.now c.apply.new.tables c.requires.room c.put_all.new.self c.readers.result.now c.readers.ensures c.in_ok-put_all.ensures (rw c.if-branch.true at c.in_ok-apply.ensures.applies)

pub returns-else-branch-clause-turn : goal.returns-else-branch-clause-turn
returns-else-branch-clause-turn g c e =
    let takes = c.in-Some.ensures.some c.in-Some.pair refl in
    IsTurn-still (g.S.System.relations c.args.system.now) c.requires.lawful c.in-Some.pair (rw c.requires.agenda at takes.within) c.args.agenda.now c.take.new.self takes c.args.tables.now c.apply.new.tables c.requires.room (rw c.if-branch.false at c.in_ok-apply.ensures.applies)
