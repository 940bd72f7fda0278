use Rattle.std.proofs.Common.{◌≡◌, ◌<◌, ◌+◌, inl, inr, ℕ, List, length, refl, sym, ap, subst, ◌∙◌, arith}
use Rattle.std.specs.Prelude.{Some, slice_get}
use Rattle.std.proofs.lemmas.Bool.{cases_lt}
use Rattle.std.proofs.lemmas.Option.{slice_get_read, slice_get_within}
use Rattle.std.proofs.lemmas.List.{length_push}
use Rattle.kasa_digraph.specs.Graph.{successors}
use Rattle.kasa_digraph.proofs.Searching.{successors_at}
use Rattle.kasa_polymers.specs.declared.map.Bond.{Bond}
use Rattle.kasa_polymers.specs.inner.Steps.{AreNumbers, IsStepAllowed}
use Rattle.kasa_polymers.proofs.PointLemmas.{successors-old, successors-new}
use Rattle.kasa_polymers.proofs.steps.steps_of.Goals as goal

pub bounds-by_type-at : goal.bounds-by_type-at
bounds-by_type-at g c =
    let at = slice_get_read c.args.points.now _ c.loop-bond.bond-index c.bond-item.result refl c.loop-bond-test.true c.bond-item.is in
    let over = c.requires.over c.bond-item.result (c.loop-bond.bond-index, at) in
    let known = over.second in
    let is = c.type_to-at.ensures.is in
    let size = c.requires.size in omega arith

pub steps_from-requires-clause-bond : goal.steps_from-requires-clause-bond
steps_from-requires-clause-bond g c =
    let at = slice_get_read c.args.points.now _ c.loop-bond.bond-index c.bond-item.result refl c.loop-bond-test.true c.bond-item.is in
    c.requires.over c.bond-item.result (c.loop-bond.bond-index, at)

pub steps_from-requires-clause-numbers : goal.steps_from-requires-clause-numbers
steps_from-requires-clause-numbers g c =
    let p = c.bond-item.result in
    let at = slice_get_read c.args.points.now _ c.loop-bond.bond-index p refl c.loop-bond-test.true c.bond-item.is in
    let over = c.requires.over p (c.loop-bond.bond-index, at) in
    let known = over.second in
    let is = c.type_to-at.ensures.is in
    let size = c.requires.size in
    let within : c.type_to-at.result < length c.args.by_type.now = omega arith in
    let same : successors c.args.by_type.now p.b ≡ c.as_slice-next.result.now =
    ap (λ (a : ℕ). successors c.args.by_type.now a) (sym is) ∙ successors_at c.args.by_type.now c.type_to-at.result c.index-by_type-at.result within c.index-by_type-at.is ∙ sym c.as_slice-next.ensures.value in
    subst (λ (xs : List ℕ). AreNumbers c.args.points.now (λ q. q.a ≡ p.b) xs) same (c.requires.numbers p.b known)

pub loop-bond-preserved : goal.loop-bond-preserved
loop-bond-preserved g c =
    let points = c.args.points.now in
    let sig = c.args.sig.now in
    let tables = g.R.Rows.tables c.args.rows.now in
    let k = c.loop-bond.bond-index in
    let p = c.bond-item.result in
    let steps = c.loop-bond.steps.items in
    let v = c.in_ok-steps_from.field-0 in
    let size = c.loop-bond.invariant.size in
    let here = slice_get_read points _ k p refl c.loop-bond-test.true c.bond-item.is in
    record {
      size = ap length c.in_ok-push.ensures.items ∙ length_push steps v ∙ ap (λ (n : ℕ). n + 1) size;
      steps = λ i q h at. elim (cases_lt i k) [
        | inl less ↦ rw (c.in_ok-push.ensures.items, successors-old steps v i (omega arith)) (c.loop-bond.invariant.steps i q less at)
        | inr more ↦ (
            let same : i ≡ k = omega arith in
            let twice : Some p ≡ Some q = sym here ∙ ap (slice_get points) (sym same) ∙ at in
            let one : p ≡ q = cc in
            rw (c.in_ok-push.ensures.items, successors-new steps v i (omega arith)) (subst (λ (r : Bond). AreNumbers points (IsStepAllowed sig tables r) v.items) one c.in_ok-steps_from.ensures))
      ];
    }

pub returns-clause-steps : goal.returns-clause-steps
returns-clause-steps g c = λ i p at. c.loop-bond.invariant.steps i p (let h = slice_get_within c.args.points.now i p at in omega arith) at
