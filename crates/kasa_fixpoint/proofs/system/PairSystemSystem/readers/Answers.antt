use Rattle.std.proofs.Common.{◌≡◌, length, ap, refl, arith}
use Rattle.std.specs.Prelude.{Some, slice_get}
use Rattle.std.proofs.lemmas.Option.{slice_get_read, slice_get_within}
use Rattle.kasa_fixpoint.specs.System.{SystemParts, IsPlanned}
use Rattle.kasa_fixpoint.proofs.SystemLemmas.{are_readers, pair_family-at}
use Rattle.kasa_fixpoint.proofs.ReaderLemmas.{of_type-at, family_within}
use Rattle.kasa_fixpoint.proofs.ApplyLemmas.{here}
use Rattle.kasa_fixpoint.proofs.system.PairSystemSystem.readers.Goals as goal

pub index-requires : goal.index-requires
index-requires c =
    let planned : IsPlanned c.args.self.now c.self.inside.readers.items = rw c.self.view_is at c.self.invariant in
    let pairs = ap (λ (q : SystemParts). q.pairs) c.self.view_is in
    let families = ap (λ (q : SystemParts). length q.families) c.self.view_is in
    let numbered : slice_get c.args.self.now.pairs c.args.pair ≡ Some c.index-pair.result.now = rw pairs at (slice_get_read c.self.inside.pairs.items _ c.args.pair c.index-pair.result.now refl (rw pairs c.requires) c.index-pair.ensures) in
    let within = slice_get_within c.args.self.now.families _ _ (here c.args.self.now c.self.inside.readers.items planned c.args.pair c.requires c.index-pair.result.now numbered).named in
    omega (arith, c.self.inside.families.ok.0)

pub index-requires-2 : goal.index-requires-2
index-requires-2 c =
    let planned : IsPlanned c.args.self.now c.self.inside.readers.items = rw c.self.view_is at c.self.invariant in
    let pairs = ap (λ (q : SystemParts). q.pairs) c.self.view_is in
    let families = ap (λ (q : SystemParts). q.families) c.self.view_is in
    let numbered : slice_get c.args.self.now.pairs c.args.pair ≡ Some c.index-pair.result.now = rw pairs at (slice_get_read c.self.inside.pairs.items _ c.args.pair c.index-pair.result.now refl (rw pairs c.requires) c.index-pair.ensures) in
    let within = slice_get_within c.args.self.now.families _ _ (here c.args.self.now c.self.inside.readers.items planned c.args.pair c.requires c.index-pair.result.now numbered).named in
    let named : slice_get c.args.self.now.families c.index-pair.result.now.family ≡ Some c.index.result.now = rw families at (slice_get_read c.self.inside.families.items _ _ c.index.result.now refl (rw families within) c.index.ensures) in
    let typed = family_within c.args.self.now.model c.args.self.now.families planned.valid _ c.index.result.now named c.first_type-agent.result (0, c.first_type-agent.ensures) in
    let size = planned.readers.size in
    let agent = c.agent.view_is in
    omega (arith, c.self.inside.readers.ok.0)

pub returns : goal.returns
returns c =
    let planned : IsPlanned c.args.self.now c.self.inside.readers.items = rw c.self.view_is at c.self.invariant in
    let pairs = ap (λ (q : SystemParts). q.pairs) c.self.view_is in
    let families = ap (λ (q : SystemParts). q.families) c.self.view_is in
    let numbered : slice_get c.args.self.now.pairs c.args.pair ≡ Some c.index-pair.result.now = rw pairs at (slice_get_read c.self.inside.pairs.items _ c.args.pair c.index-pair.result.now refl (rw pairs c.requires) c.index-pair.ensures) in
    let within = slice_get_within c.args.self.now.families _ _ (here c.args.self.now c.self.inside.readers.items planned c.args.pair c.requires c.index-pair.result.now numbered).named in
    let named : slice_get c.args.self.now.families c.index-pair.result.now.family ≡ Some c.index.result.now = rw families at (slice_get_read c.self.inside.families.items _ _ c.index.result.now refl (rw families within) c.index.ensures) in
    let typed = family_within c.args.self.now.model c.args.self.now.families planned.valid _ c.index.result.now named c.first_type-agent.result (0, c.first_type-agent.ensures) in
    let at = slice_get_read c.self.inside.readers.items _ c.first_type-agent.result c.index-2.result.now refl (let size = planned.readers.size in omega arith) (rw c.agent.view_is at c.index-2.ensures) in
    rw (c.as_slice.ensures, ← of_type-at c.self.inside.readers.items c.first_type-agent.result c.index-2.result.now at, pair_family-at c.args.self.now c.args.pair c.index-pair.result.now numbered)
    (are_readers c.args.self.now c.self.inside.readers.items planned c.index-pair.result.now.family c.index.result.now c.first_type-agent.result named c.first_type-agent.ensures)
