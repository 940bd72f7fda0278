use Rattle.std.proofs.Common.{◌≡◌, arith}
use Rattle.kasa_worklist.proofs.AgendaLemmas.{taken_within, MarksAgree-taken, Takes-first}
use Rattle.kasa_worklist.proofs.agenda.Agenda.take.Goals as goal

pub index_mut-requires : goal.index_mut-requires
index_mut-requires c =
    let below = taken_within c.pop_front.new.self.items c.self.inside.queue.items c.self.inside.on.items c.in_ok-k.k c.self.invariant c.in_ok-k.ensures.items in
    omega (arith, c.self.inside.on.ok.0)

pub invariant_of-self-2 : goal.invariant_of-self-2
invariant_of-self-2 c = MarksAgree-taken c.pop_front.new.self.items c.self.inside.queue.items c.self.inside.on.items c.in_ok-k.k c.self.invariant c.in_ok-k.ensures.items

pub returns-clause-some : goal.returns-clause-some
returns-clause-some c k e =
    let takes = Takes-first c.pop_front.new.self.items c.self.inside.queue.items c.self.inside.on.items c.in_ok-k.k c.self.invariant c.in_ok-k.ensures.items in
    let same : c.in_ok-k.k ≡ k = cc in
    rw (← same, ← c.self.view_is) takes
