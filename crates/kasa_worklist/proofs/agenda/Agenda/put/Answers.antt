use Rattle.std.proofs.Common.{◌≢◌, ◌<◌, true, [], ◌∷◌, length}
use Rattle.std.specs.Prelude.{Some, slice_get, slice_set}
use Rattle.kasa_worklist.specs.Agenda.{Puts}
use Rattle.kasa_worklist.proofs.AgendaLemmas.{MarksAgree-put, Puts-one, Puts-there, marked_at}
use Rattle.kasa_worklist.proofs.agenda.Agenda.put.Goals as goal

pub invariant_of-self : goal.invariant_of-self
invariant_of-self c = rw c.in_err-push_back.ensures.items c.self.invariant

pub invariant_of-self-then-not-index : goal.invariant_of-self-then-not-index
invariant_of-self-then-not-index c =
    let below : c.args.k < length c.self.inside.on.items = rw (← c.self.view_is) at c.requires in
    let off : slice_get c.self.inside.on.items c.args.k ≢ Some true = λ e. (let is = marked_at c.self.inside.on.items c.args.k c.index.result.now below c.index.ensures in let no = c.if-not-index.true in cc) in
    rw c.in_ok-push_back.ensures.items (MarksAgree-put c.self.inside.queue.items c.self.inside.on.items c.args.k c.self.invariant below off)

pub returns-in_ok-push_back : goal.returns-in_ok-push_back
returns-in_ok-push_back c =
    let below : c.args.k < length c.self.inside.on.items = rw (← c.self.view_is) at c.requires in
    let puts : Puts (c.args.k ∷ []) (record { numbers = c.self.inside.queue.items; size = length c.self.inside.on.items }) (record { numbers = c.push_back.new.self.items; size = length (slice_set c.self.inside.on.items c.args.k true) }) =
    rw c.in_ok-push_back.ensures.items (Puts-one c.self.inside.queue.items c.self.inside.on.items c.args.k c.self.invariant below) in
    rw (← c.self.view_is) puts

pub returns-else-not-index : goal.returns-else-not-index
returns-else-not-index c =
    let below : c.args.k < length c.self.inside.on.items = rw (← c.self.view_is) at c.requires in
    let is = marked_at c.self.inside.on.items c.args.k c.index.result.now below c.index.ensures in
    let there = c.self.invariant.listed c.args.k (rw c.if-not-index.false at is) in
    rw (← c.self.view_is) (Puts-there (record { numbers = c.self.inside.queue.items; size = length c.self.inside.on.items }) c.args.k there)
