use Rattle.std.proofs.Common.{get_or, refl}
use Rattle.std.proofs.lemmas.Option.{slice_get-get_or}
use Rattle.kasa_worklist.proofs.AgendaLemmas.{Puts-next, Puts-none}
use Rattle.kasa_worklist.proofs.agenda.Agenda.put_all.Goals as goal

pub loop-k-init : goal.loop-k-init
loop-k-init c = Puts-none c.args.self.now

pub put-requires : goal.put-requires
put-requires c =
    rw c.loop-k.invariant.size
    (c.requires (get_or c.args.numbers.now c.loop-k.k-index 0) (c.loop-k.k-index, slice_get-get_or c.args.numbers.now c.loop-k.k-index 0 c.loop-k-test.true))

pub loop-k-preserved : goal.loop-k-preserved
loop-k-preserved c = Puts-next c.args.numbers.now c.loop-k.k-index _ c.args.self.now c.loop-k.self c.put.new.self c.loop-k-test.true refl c.loop-k.invariant c.in_ok-put.ensures
