use Rattle.std.proofs.Common.{refl}
use Rattle.std.proofs.lemmas.Option.{slice_get_read}
use Rattle.kasa_fixpoint.proofs.ReaderLemmas.{of_type-at, PutsOfTypes-answer}
use Rattle.kasa_fixpoint.proofs.readers.put_at.Goals as goal

pub put-requires : goal.put-requires
put-requires c =
    let at = slice_get_read c.args.lists.now.items _ c.args.agent c.index_mut.result.now refl c.requires.within (rw c.agent.view_is at c.index_mut.ensures.value) in
    rw (of_type-at c.args.lists.now.items c.args.agent c.index_mut.result.now at) at (c.requires.up_to c.args.agent)

pub returns : goal.returns
returns c =
    let at = slice_get_read c.args.lists.now.items _ c.args.agent c.index_mut.result.now refl c.requires.within (rw c.agent.view_is at c.index_mut.ensures.value) in
    PutsOfTypes-answer c.args.p c.args.agent c.args.lists.now.items _ c.index_mut.result.now c.requires.within c.requires.up_to (of_type-at c.args.lists.now.items c.args.agent c.index_mut.result.now at) c.put.result c.put.new.self (rw c.agent.view_is refl) c.put.ensures
