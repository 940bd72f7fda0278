use Rattle.std.proofs.Common.{◌≡◌, ◌≤◌, ℕ, List, length, refl, arith}
use Rattle.std.specs.Prelude.{Option, Some, slice_get}
use Rattle.std.proofs.lemmas.Option.{slice_get_read}
use Rattle.kasa_graph.specs.declared.mixture.Agent.{Agent}
use Rattle.kasa_graph.specs.Lists.{Has}
use Rattle.kasa_polymers.specs.declared.map.Bond.{Bond}
use Rattle.kasa_polymers.specs.declared.map.StateSeen.{StateSeen}
use Rattle.kasa_polymers.specs.Contact.{HasBond, HasStateSeen}
use Rattle.kasa_polymers.specs.inner.Gather.{Below}
use Rattle.kasa_polymers.proofs.AddsLemmas.{AddsSeen-start, AddsSeen-more, AddsSeen-same}
use Rattle.kasa_polymers.proofs.GatherLemmas.{some_place, one_place}
use Rattle.kasa_polymers.proofs.gather.see_complexes.Goals as goal

abbrev bonds_at : List (List (Option Agent)) → ℕ → Bond → Type 0
bonds_at complexes k p = (m : List (Option Agent)) × (slice_get complexes k ≡ Some m) × HasBond m p

abbrev states_at : List (List (Option Agent)) → ℕ → StateSeen → Type 0
states_at complexes k q = (m : List (Option Agent)) × (slice_get complexes k ≡ Some m) × HasStateSeen m q

pub loop-complex-init : goal.loop-complex-init
loop-complex-init c = record { added = AddsSeen-start (bonds_at c.args.complexes.now) (states_at c.args.complexes.now) c.args.seen.now }

pub see_complex-requires : goal.see_complex-requires
see_complex-requires c =
    let at = slice_get_read c.args.complexes.now _ c.loop-complex.complex-index c.complex-item.result refl c.loop-complex-test.true c.complex-item.is in
    record { over = c.requires.over c.complex-item.result (c.loop-complex.complex-index, at) }

pub loop-complex-preserved : goal.loop-complex-preserved
loop-complex-preserved c =
    let complexes = c.args.complexes.now in
    let k = c.loop-complex.complex-index in
    let m = c.complex-item.result in
    let at = slice_get_read complexes _ k m refl c.loop-complex-test.true c.complex-item.is in
    record {
      added = AddsSeen-more (bonds_at complexes) (states_at complexes) k c.args.seen.now c.loop-complex.seen c.see_complex.new.seen c.loop-complex.invariant.added
          (AddsSeen-same (HasBond m) (bonds_at complexes k) (HasStateSeen m) (states_at complexes k) c.loop-complex.seen c.see_complex.new.seen
          (one_place complexes (λ (n : List (Option Agent)) (p : Bond). HasBond n p) k m at) (one_place complexes (λ (n : List (Option Agent)) (q : StateSeen). HasStateSeen n q) k m at) c.in_ok-see_complex.ensures);
    }

pub returns : goal.returns
returns c =
    let complexes = c.args.complexes.now in
    let k = c.loop-complex.complex-index in
    let all : length complexes ≤ k = omega arith in
    AddsSeen-same (Below (bonds_at complexes) k) (λ p. (m : List (Option Agent)) × Has complexes m × HasBond m p) (Below (states_at complexes) k) (λ q. (m : List (Option Agent)) × Has complexes m × HasStateSeen m q) c.args.seen.now c.loop-complex.seen
    (some_place complexes (λ (n : List (Option Agent)) (p : Bond). HasBond n p) k all) (some_place complexes (λ (n : List (Option Agent)) (q : StateSeen). HasStateSeen n q) k all) c.loop-complex.invariant.added
