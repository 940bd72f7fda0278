use Rattle.kasa_worklist.proofs.AgendaLemmas.{AreBelow-none, AreBelow-next, MarksAgree-below}
use Rattle.kasa_worklist.proofs.agenda.Agenda.full.Goals as goal

pub loop-k-init : goal.loop-k-init
loop-k-init c = rw (c.new-queue.ensures.items, c.new-on.ensures.items) AreBelow-none

pub loop-k-preserved : goal.loop-k-preserved
loop-k-preserved c = AreBelow-next c.loop-k.queue.items _ c.loop-k.on.items _ c.loop-k.k c.in_ok-push_back.ensures.items c.in_ok-push.ensures.items c.loop-k.invariant

pub invariant_of-result : goal.invariant_of-result
invariant_of-result c = MarksAgree-below c.loop-k.queue.items c.loop-k.on.items c.loop-k.k c.loop-k.invariant
