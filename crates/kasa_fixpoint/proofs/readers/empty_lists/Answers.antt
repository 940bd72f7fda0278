use Rattle.std.proofs.Common.{[], ◌∷◌, arith, length-append}
use Rattle.kasa_fixpoint.proofs.ReaderLemmas.{of_type-none, of_type-pushed}
use Rattle.kasa_fixpoint.proofs.readers.empty_lists.Goals as goal

pub loop-init : goal.loop-init
loop-init c = record { size = rw c.new-lists.ensures.items (omega arith); empty = λ a. rw c.new-lists.ensures.items (of_type-none a) }

pub loop-preserved : goal.loop-preserved
loop-preserved c = record {
  size = rw c.in_ok-push.ensures.items (let more = length-append c.loop.lists.items (c.none.result ∷ []) in let before = c.loop.invariant.size in omega arith);
  empty = λ a. rw (c.in_ok-push.ensures.items, c.none.ensures) (of_type-pushed c.loop.lists.items c.loop.invariant.empty a);
}
