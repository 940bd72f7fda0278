use Rattle.std.proofs.Common.{◌≡◌, ◌<◌, ◌≤◌, length, ap, refl, ◌∙◌, arith}
use Rattle.std.specs.Prelude.{Some, slice_get}
use Rattle.std.proofs.lemmas.Option.{slice_get_read, slice_get_within}
use Rattle.kasa_rules.specs.declared.model.Model.{Model}
use Rattle.kasa_fixpoint.specs.System.{SystemParts, IsPlanned}
use Rattle.kasa_fixpoint.proofs.ApplyLemmas.{here, over, family_of_tables, has_room, too_many, lacks_room, shapes, applies_answer}
use Rattle.kasa_fixpoint.proofs.system.PairSystemSystem.apply.Goals as goal

pub bounds-as_slice-pair : goal.bounds-as_slice-pair
bounds-as_slice-pair g c =
    let planned : IsPlanned c.args.self.now c.self.inside.readers.items = rw c.self.view_is at c.self.invariant in
    let pairs = ap (λ (q : SystemParts). q.pairs) c.self.view_is in
    let numbered : slice_get c.args.self.now.pairs c.args.pair ≡ Some c.index-pair.result.now = rw pairs at (slice_get_read c.self.inside.pairs.items _ c.args.pair c.index-pair.result.now refl (rw pairs c.requires.pair) c.index-pair.ensures) in
    let its = here c.args.self.now c.self.inside.readers.items planned c.args.pair c.requires.pair c.index-pair.result.now numbered in
    let items = c.as_slice.ensures ∙ ap (λ (m : Model). m.rules) c.model.view_is ∙ ap (λ (q : SystemParts). q.model.rules) c.self.view_is in
    rw items (slice_get_within c.args.self.now.model.rules _ its.r its.ruled)

pub new_rows-requires-clause-over : goal.new_rows-requires-clause-over
new_rows-requires-clause-over g c =
    let planned : IsPlanned c.args.self.now c.self.inside.readers.items = rw c.self.view_is at c.self.invariant in
    let pairs = ap (λ (q : SystemParts). q.pairs) c.self.view_is in
    let numbered : slice_get c.args.self.now.pairs c.args.pair ≡ Some c.index-pair.result.now = rw pairs at (slice_get_read c.self.inside.pairs.items _ c.args.pair c.index-pair.result.now refl (rw pairs c.requires.pair) c.index-pair.ensures) in
    let its = here c.args.self.now c.self.inside.readers.items planned c.args.pair c.requires.pair c.index-pair.result.now numbered in
    let items = c.as_slice.ensures ∙ ap (λ (m : Model). m.rules) c.model.view_is ∙ ap (λ (q : SystemParts). q.model.rules) c.self.view_is in
    let ruled : slice_get c.args.self.now.model.rules c.index-pair.result.now.rule ≡ Some c.index-as_slice-pair.result = rw items at (slice_get_read c.as_slice.result.now _ _ c.index-as_slice-pair.result refl (rw items (slice_get_within c.args.self.now.model.rules _ its.r its.ruled)) c.index-as_slice-pair.is) in
    let sig = ap (λ (m : Model). m.sig) c.model.view_is ∙ ap (λ (q : SystemParts). q.model.sig) c.self.view_is in
    rw sig (over c.args.self.now c.self.inside.readers.items planned c.args.pair c.requires.pair c.index-pair.result.now numbered c.index-as_slice-pair.result ruled)

pub new_rows-requires-clause-there : goal.new_rows-requires-clause-there
new_rows-requires-clause-there g c =
    let planned : IsPlanned c.args.self.now c.self.inside.readers.items = rw c.self.view_is at c.self.invariant in
    let pairs = ap (λ (q : SystemParts). q.pairs) c.self.view_is in
    let numbered : slice_get c.args.self.now.pairs c.args.pair ≡ Some c.index-pair.result.now = rw pairs at (slice_get_read c.self.inside.pairs.items _ c.args.pair c.index-pair.result.now refl (rw pairs c.requires.pair) c.index-pair.ensures) in
    let its = here c.args.self.now c.self.inside.readers.items planned c.args.pair c.requires.pair c.index-pair.result.now numbered in
    (its.family, family_of_tables c.args.self.now c.self.inside.readers.items planned c.args.pair c.requires.pair c.index-pair.result.now numbered c.args.tables.now c.requires.room)

pub returns-then-len-gt-MOST_ROWS-clause-too_many : goal.returns-then-len-gt-MOST_ROWS-clause-too_many
returns-then-len-gt-MOST_ROWS-clause-too_many g c e =
    let planned : IsPlanned c.args.self.now c.self.inside.readers.items = rw c.self.view_is at c.self.invariant in
    let pairs = ap (λ (q : SystemParts). q.pairs) c.self.view_is in
    let numbered : slice_get c.args.self.now.pairs c.args.pair ≡ Some c.index-pair.result.now = rw pairs at (slice_get_read c.self.inside.pairs.items _ c.args.pair c.index-pair.result.now refl (rw pairs c.requires.pair) c.index-pair.ensures) in
    let its = here c.args.self.now c.self.inside.readers.items planned c.args.pair c.requires.pair c.index-pair.result.now numbered in
    let items = c.as_slice.ensures ∙ ap (λ (m : Model). m.rules) c.model.view_is ∙ ap (λ (q : SystemParts). q.model.rules) c.self.view_is in
    let ruled : slice_get c.args.self.now.model.rules c.index-pair.result.now.rule ≡ Some c.index-as_slice-pair.result = rw items at (slice_get_read c.as_slice.result.now _ _ c.index-as_slice-pair.result refl (rw items (slice_get_within c.args.self.now.model.rules _ its.r its.ruled)) c.index-as_slice-pair.is) in
    let sig = ap (λ (m : Model). m.sig) c.model.view_is ∙ ap (λ (q : SystemParts). q.model.sig) c.self.view_is in
    let are = rw sig at c.in_ok-rows.ensures.results in
    let many : 200000 < length c.in_ok-rows.rows.items = (let t = c.if-len-gt-MOST_ROWS.true in let l = c.len.ensures in omega (arith, c.in_ok-rows.rows.ok.0)) in
    too_many c.args.self.now c.self.inside.readers.items planned c.args.pair c.requires.pair c.index-pair.result.now numbered c.args.tables.now c.requires.room c.index-as_slice-pair.result ruled c.in_ok-rows.rows.items are many

pub insert_all-requires-clause-room : goal.insert_all-requires-clause-room
insert_all-requires-clause-room g c =
    let planned : IsPlanned c.args.self.now c.self.inside.readers.items = rw c.self.view_is at c.self.invariant in
    let pairs = ap (λ (q : SystemParts). q.pairs) c.self.view_is in
    let numbered : slice_get c.args.self.now.pairs c.args.pair ≡ Some c.index-pair.result.now = rw pairs at (slice_get_read c.self.inside.pairs.items _ c.args.pair c.index-pair.result.now refl (rw pairs c.requires.pair) c.index-pair.ensures) in
    let its = here c.args.self.now c.self.inside.readers.items planned c.args.pair c.requires.pair c.index-pair.result.now numbered in
    has_room c.args.self.now c.self.inside.readers.items planned c.args.pair c.requires.pair c.index-pair.result.now numbered c.args.tables.now c.requires.room

pub insert_all-requires-clause-shape : goal.insert_all-requires-clause-shape
insert_all-requires-clause-shape g c =
    let planned : IsPlanned c.args.self.now c.self.inside.readers.items = rw c.self.view_is at c.self.invariant in
    let pairs = ap (λ (q : SystemParts). q.pairs) c.self.view_is in
    let numbered : slice_get c.args.self.now.pairs c.args.pair ≡ Some c.index-pair.result.now = rw pairs at (slice_get_read c.self.inside.pairs.items _ c.args.pair c.index-pair.result.now refl (rw pairs c.requires.pair) c.index-pair.ensures) in
    let its = here c.args.self.now c.self.inside.readers.items planned c.args.pair c.requires.pair c.index-pair.result.now numbered in
    let items = c.as_slice.ensures ∙ ap (λ (m : Model). m.rules) c.model.view_is ∙ ap (λ (q : SystemParts). q.model.rules) c.self.view_is in
    let ruled : slice_get c.args.self.now.model.rules c.index-pair.result.now.rule ≡ Some c.index-as_slice-pair.result = rw items at (slice_get_read c.as_slice.result.now _ _ c.index-as_slice-pair.result refl (rw items (slice_get_within c.args.self.now.model.rules _ its.r its.ruled)) c.index-as_slice-pair.is) in
    let sig = ap (λ (m : Model). m.sig) c.model.view_is ∙ ap (λ (q : SystemParts). q.model.sig) c.self.view_is in
    let are = rw sig at c.in_ok-rows.ensures.results in
    (its.family, family_of_tables c.args.self.now c.self.inside.readers.items planned c.args.pair c.requires.pair c.index-pair.result.now numbered c.args.tables.now c.requires.room, shapes c.args.self.now c.self.inside.readers.items planned c.args.pair c.requires.pair c.index-pair.result.now numbered c.args.tables.now c.requires.room c.index-as_slice-pair.result ruled c.in_ok-rows.rows.items are)

pub returns-clause-applies : goal.returns-clause-applies
returns-clause-applies g c =
    let planned : IsPlanned c.args.self.now c.self.inside.readers.items = rw c.self.view_is at c.self.invariant in
    let pairs = ap (λ (q : SystemParts). q.pairs) c.self.view_is in
    let numbered : slice_get c.args.self.now.pairs c.args.pair ≡ Some c.index-pair.result.now = rw pairs at (slice_get_read c.self.inside.pairs.items _ c.args.pair c.index-pair.result.now refl (rw pairs c.requires.pair) c.index-pair.ensures) in
    let its = here c.args.self.now c.self.inside.readers.items planned c.args.pair c.requires.pair c.index-pair.result.now numbered in
    let items = c.as_slice.ensures ∙ ap (λ (m : Model). m.rules) c.model.view_is ∙ ap (λ (q : SystemParts). q.model.rules) c.self.view_is in
    let ruled : slice_get c.args.self.now.model.rules c.index-pair.result.now.rule ≡ Some c.index-as_slice-pair.result = rw items at (slice_get_read c.as_slice.result.now _ _ c.index-as_slice-pair.result refl (rw items (slice_get_within c.args.self.now.model.rules _ its.r its.ruled)) c.index-as_slice-pair.is) in
    let sig = ap (λ (m : Model). m.sig) c.model.view_is ∙ ap (λ (q : SystemParts). q.model.sig) c.self.view_is in
    let are = rw sig at c.in_ok-rows.ensures.results in
    let few : length c.in_ok-rows.rows.items ≤ 200000 = (let t = c.if-len-gt-MOST_ROWS.false in let l = c.len.ensures in omega (arith, c.in_ok-rows.rows.ok.0)) in
    applies_answer c.args.self.now c.self.inside.readers.items planned c.args.pair c.requires.pair c.index-pair.result.now numbered c.args.tables.now c.requires.room c.index-as_slice-pair.result ruled c.in_ok-rows.rows.items are c.insert_all.new.tables c.insert_all.result few c.insert_all.ensures.takes c.insert_all.ensures.grown

pub returns-clause-too_many : goal.returns-clause-too_many
returns-clause-too_many g c e =
    let planned : IsPlanned c.args.self.now c.self.inside.readers.items = rw c.self.view_is at c.self.invariant in
    let pairs = ap (λ (q : SystemParts). q.pairs) c.self.view_is in
    let numbered : slice_get c.args.self.now.pairs c.args.pair ≡ Some c.index-pair.result.now = rw pairs at (slice_get_read c.self.inside.pairs.items _ c.args.pair c.index-pair.result.now refl (rw pairs c.requires.pair) c.index-pair.ensures) in
    let its = here c.args.self.now c.self.inside.readers.items planned c.args.pair c.requires.pair c.index-pair.result.now numbered in
    let items = c.as_slice.ensures ∙ ap (λ (m : Model). m.rules) c.model.view_is ∙ ap (λ (q : SystemParts). q.model.rules) c.self.view_is in
    let ruled : slice_get c.args.self.now.model.rules c.index-pair.result.now.rule ≡ Some c.index-as_slice-pair.result = rw items at (slice_get_read c.as_slice.result.now _ _ c.index-as_slice-pair.result refl (rw items (slice_get_within c.args.self.now.model.rules _ its.r its.ruled)) c.index-as_slice-pair.is) in
    let sig = ap (λ (m : Model). m.sig) c.model.view_is ∙ ap (λ (q : SystemParts). q.model.sig) c.self.view_is in
    let are = rw sig at c.in_ok-rows.ensures.results in
    lacks_room c.args.self.now c.self.inside.readers.items planned c.args.pair c.requires.pair c.index-pair.result.now numbered c.args.tables.now c.requires.room c.index-as_slice-pair.result ruled c.in_ok-rows.rows.items are (c.insert_all.ensures.too_many e)
