use Rattle.std.proofs.Common.{ap, refl, ◌∙◌}
use Rattle.std.proofs.lemmas.Option.{slice_get_read, slice_get_within}
use Rattle.kasa_rules.specs.declared.model.Model.{Model}
use Rattle.kasa_fixpoint.proofs.ReaderLemmas.{read_pair, left_within, family_within, AreUpTo-below, AreReadersBelow-answer}
use Rattle.kasa_fixpoint.proofs.readers.put_pair.Goals as goal

pub bounds-as_slice-pair : goal.bounds-as_slice-pair
bounds-as_slice-pair c =
    let items = c.as_slice.ensures ∙ ap (λ (m : Model). m.rules) c.model.view_is in
    let read = read_pair c.args.model.now c.args.families.now c.args.pairs.now c.requires.pairs c.args.p c.requires.pair in
    rw items (slice_get_within c.args.model.now.rules _ read.r read.is.ruled)

pub put_left-requires-clause-within : goal.put_left-requires-clause-within
put_left-requires-clause-within c a has =
    let items = c.as_slice.ensures ∙ ap (λ (m : Model). m.rules) c.model.view_is in
    let read = read_pair c.args.model.now c.args.families.now c.args.pairs.now c.requires.pairs c.args.p c.requires.pair in
    let within = slice_get_within c.args.model.now.rules _ read.r read.is.ruled in
    let ruled = rw items at (slice_get_read c.as_slice.result.now _ _ c.index-as_slice-pair.result refl (rw items within) c.index-as_slice-pair.is) in
    rw c.requires.below.size (left_within c.args.model.now (rw c.model.view_is at c.model.invariant.0) _ c.index-as_slice-pair.result ruled a has)

pub put_left-requires-clause-up_to : goal.put_left-requires-clause-up_to
put_left-requires-clause-up_to c = AreUpTo-below c.args.model.now c.args.families.now c.args.pairs.now c.args.p c.args.lists.now.items c.requires.below

pub bounds-families-pair : goal.bounds-families-pair
bounds-families-pair c =
    let read = read_pair c.args.model.now c.args.families.now c.args.pairs.now c.requires.pairs c.args.p c.requires.pair in
    slice_get_within c.args.families.now _ read.family read.is.named

pub put_family-requires-clause-within : goal.put_family-requires-clause-within
put_family-requires-clause-within c a has =
    let read = read_pair c.args.model.now c.args.families.now c.args.pairs.now c.requires.pairs c.args.p c.requires.pair in
    let within = slice_get_within c.args.families.now _ read.family read.is.named in
    let named = slice_get_read c.args.families.now _ _ c.index-families-pair.result refl within c.index-families-pair.is in
    rw (c.in_ok-put_left.ensures.size, c.requires.below.size) (family_within c.args.model.now c.args.families.now c.requires.valid _ c.index-families-pair.result named a has)

pub returns : goal.returns
returns c =
    let items = c.as_slice.ensures ∙ ap (λ (m : Model). m.rules) c.model.view_is in
    let read = read_pair c.args.model.now c.args.families.now c.args.pairs.now c.requires.pairs c.args.p c.requires.pair in
    let below = slice_get_within c.args.model.now.rules _ read.r read.is.ruled in
    let ruled = rw items at (slice_get_read c.as_slice.result.now _ _ c.index-as_slice-pair.result refl (rw items below) c.index-as_slice-pair.is) in
    let within = slice_get_within c.args.families.now _ read.family read.is.named in
    let named = slice_get_read c.args.families.now _ _ c.index-families-pair.result refl within c.index-families-pair.is in
    AreReadersBelow-answer c.args.model.now c.args.families.now c.args.pairs.now c.args.p _ read.numbered c.index-as_slice-pair.result c.index-families-pair.result (record { ruled = ruled; named = named }) c.args.lists.now.items c.put_left.new.lists.items c.put_family.new.lists.items c.requires.below c.in_ok-put_left.ensures c.put_family.result c.put_family.ensures
