use Rattle.std.proofs.Common.{◌≡◌, ◌<◌, ℕ, get_or, length, refl, sym, ap, ◌∙◌, arith}
use Rattle.std.specs.Prelude.{Some, slice_get}
use Rattle.std.proofs.lemmas.Option.{slice_get_read}
use Rattle.kasa_digraph.proofs.Lists.{in_at}
use Rattle.kasa_polymers.specs.declared.map.Bond.{Bond}
use Rattle.kasa_polymers.specs.inner.Steps.{IsStepAllowed}
use Rattle.kasa_polymers.proofs.PointLemmas.{chosen_none, chosen_push, chosen_skip, chosen_all}
use Rattle.kasa_polymers.proofs.SumLemmas.{number_within}
use Rattle.kasa_polymers.proofs.steps.steps_from.Goals as goal
use Rattle.kasa_polymers.proofs.steps.steps_from.Goals.{then-branch+in_ok-push, else-branch}

pub bounds-points-number : goal.bounds-points-number
bounds-points-number g c =
    let k = c.loop-number.number-index in
    number_within c.args.points.now (λ q. q.a ≡ c.args.bond.now.b) c.args.next.now c.requires.numbers (get_or c.args.next.now k 0) (in_at c.args.next.now k c.loop-number-test.true)

pub is_step-requires-clause-next_over : goal.is_step-requires-clause-next_over
is_step-requires-clause-next_over g c =
    let k = c.loop-number.number-index in
    let within = number_within c.args.points.now (λ q. q.a ≡ c.args.bond.now.b) c.args.next.now c.requires.numbers (get_or c.args.next.now k 0) (in_at c.args.next.now k c.loop-number-test.true) in
    let at = slice_get_read c.args.points.now _ (get_or c.args.next.now k 0) c.index-points-number.result refl within c.index-points-number.is in
    c.requires.over c.index-points-number.result (get_or c.args.next.now k 0, at)

pub is_step-requires-clause-goes_on : goal.is_step-requires-clause-goes_on
is_step-requires-clause-goes_on g c =
    let k = c.loop-number.number-index in
    let member = in_at c.args.next.now k c.loop-number-test.true in
    let within = number_within c.args.points.now (λ q. q.a ≡ c.args.bond.now.b) c.args.next.now c.requires.numbers (get_or c.args.next.now k 0) member in
    let at = slice_get_read c.args.points.now _ (get_or c.args.next.now k 0) c.index-points-number.result refl within c.index-points-number.is in
    let q = (c.requires.numbers (get_or c.args.next.now k 0)).0 member in
    let twice : Some q.0 ≡ Some c.index-points-number.result = sym q.1 ∙ at in
    let one : q.0 ≡ c.index-points-number.result = cc in
    sym q.2 ∙ ap (λ (r : Bond). r.a) one

pub loop-number-preserved : goal.loop-number-preserved
loop-number-preserved g c =
    let points = c.args.points.now in
    let next = c.args.next.now in
    let k = c.loop-number.number-index in
    let within = number_within points (λ q. q.a ≡ c.args.bond.now.b) next c.requires.numbers (get_or next k 0) (in_at next k c.loop-number-test.true) in
    let at = slice_get_read points _ (get_or next k 0) c.index-points-number.result refl within c.index-points-number.is in
    record {
      chosen = elim c.if-branch.branch [
        | then-branch+in_ok-push w ↦ rw (w.steps-is, w.in_ok-push.ensures.items)
            (chosen_push points (IsStepAllowed c.args.sig.now (g.R.Rows.tables c.args.rows.now) c.args.bond.now) next k c.loop-number.steps.items c.index-points-number.result c.loop-number-test.true at
            (c.in_ok-is_step.ensures.0 w.if-branch.true) c.loop-number.invariant.chosen)
        | else-branch w ↦ rw w.steps-is
            (chosen_skip points (IsStepAllowed c.args.sig.now (g.R.Rows.tables c.args.rows.now) c.args.bond.now) next k c.loop-number.steps.items c.index-points-number.result c.loop-number-test.true at
            (λ holds. absurd (let met = c.in_ok-is_step.ensures.1 holds in let unmet = w.if-branch.false in cc)) c.loop-number.invariant.chosen)
      ];
    }

pub returns : goal.returns
returns g c =
    chosen_all c.args.points.now (IsStepAllowed c.args.sig.now (g.R.Rows.tables c.args.rows.now) c.args.bond.now) c.args.next.now (λ q. q.a ≡ c.args.bond.now.b) c.loop-number.number-index c.loop-number.steps.items
    (omega arith) (λ q step. sym step.goes_on) c.requires.numbers c.loop-number.invariant.chosen
