use Rattle.std.proofs.Common.{◌≡◌, ◌≤◌, ◌∙◌, ap, sym, length, subst, arith}
use Rattle.std.proofs.lemmas.Result.{IfOk-weaker}
use Rattle.kasa_digraph.specs.Graph.{successors}
use Rattle.kasa_rules.specs.declared.model.Model.{Model}
use Rattle.kasa_rules.specs.Reached.{IsModel}
use Rattle.kasa_polymers.specs.Verdict.{IsVerdict}
use Rattle.kasa_polymers.proofs.PointLemmas.{few_bonds}
use Rattle.kasa_polymers.proofs.GraphLemmas.{IsBondOver-read, IsBondOver-point, IsGraphOf-read, BoundsSpecies-verdict}
use Rattle.kasa_polymers.proofs.verdict.polymers.Goals as goal

pub points_of-requires-clause-over : goal.points_of-requires-clause-over
points_of-requires-clause-over g c =
    IsBondOver-read c.args.model.now (g.R.Rows.tables c.args.rows.now) c.model.inside.sig (ap (λ (m : Model). m.sig) c.model.view_is) c.in_ok-map.map.bonds c.as_slice.result.now c.as_slice.result.now c.as_slice.ensures
    c.in_ok-map.ensures.bonds (subst IsModel c.model.view_is c.model.invariant.0)

pub points_of-requires-clause-ascend : goal.points_of-requires-clause-ascend
points_of-requires-clause-ascend g c = rw c.as_slice.ensures c.in_ok-map.ensures.bonds_ascend

pub points_by_type-requires-clause-few : goal.points_by_type-requires-clause-few
points_by_type-requires-clause-few g c =
    let over = IsBondOver-point c.args.model.now (g.R.Rows.tables c.args.rows.now) c.model.inside.sig (ap (λ (m : Model). m.sig) c.model.view_is) c.in_ok-map.map.bonds c.as_slice.result.now c.in_ok-points.points.items c.as_slice.ensures
    c.in_ok-map.ensures.bonds c.in_ok-points.ensures.listed (subst IsModel c.model.view_is c.model.invariant.0) in
    let few = few_bonds c.model.inside.sig c.types.ensures.valid c.in_ok-points.points.items c.in_ok-points.ensures.ascend over in
    let size = ap length c.as_slice-2.ensures.value in omega arith

pub points_by_type-requires-clause-known : goal.points_by_type-requires-clause-known
points_by_type-requires-clause-known g c = λ p has.
    let over = IsBondOver-point c.args.model.now (g.R.Rows.tables c.args.rows.now) c.model.inside.sig (ap (λ (m : Model). m.sig) c.model.view_is) c.in_ok-map.map.bonds c.as_slice.result.now c.in_ok-points.points.items c.as_slice.ensures
    c.in_ok-map.ensures.bonds c.in_ok-points.ensures.listed (subst IsModel c.model.view_is c.model.invariant.0) p (rw c.as_slice-2.ensures.value at has) in
    let known = over.first in
    let types = c.types.ensures.count in omega arith

pub steps_of-requires-clause-over : goal.steps_of-requires-clause-over
steps_of-requires-clause-over g c = rw c.as_slice-3.ensures.value
    (IsBondOver-point c.args.model.now (g.R.Rows.tables c.args.rows.now) c.model.inside.sig (ap (λ (m : Model). m.sig) c.model.view_is) c.in_ok-map.map.bonds c.as_slice.result.now c.in_ok-points.points.items c.as_slice.ensures
    c.in_ok-map.ensures.bonds c.in_ok-points.ensures.listed (subst IsModel c.model.view_is c.model.invariant.0))

pub steps_of-requires-clause-size : goal.steps_of-requires-clause-size
steps_of-requires-clause-size g c = ap length c.as_slice-4.ensures.value ∙ c.in_ok-by_type.ensures.size ∙ c.types.ensures.count

pub steps_of-requires-clause-numbers : goal.steps_of-requires-clause-numbers
steps_of-requires-clause-numbers g c =
    let types = c.types.ensures.count in
    λ a known. rw (c.as_slice-3.ensures.value, c.as_slice-4.ensures.value) (rw c.as_slice-2.ensures.value at (c.in_ok-by_type.ensures.numbers a (omega arith)))

pub verdict_of-requires-clause-few : goal.verdict_of-requires-clause-few
verdict_of-requires-clause-few g c =
    let over = IsBondOver-point c.args.model.now (g.R.Rows.tables c.args.rows.now) c.model.inside.sig (ap (λ (m : Model). m.sig) c.model.view_is) c.in_ok-map.map.bonds c.as_slice.result.now c.in_ok-points.points.items c.as_slice.ensures
    c.in_ok-map.ensures.bonds c.in_ok-points.ensures.listed (subst IsModel c.model.view_is c.model.invariant.0) in
    let few = few_bonds c.model.inside.sig c.types.ensures.valid c.in_ok-points.points.items c.in_ok-points.ensures.ascend over in
    let size = ap length c.as_slice-5.ensures.value in omega arith

pub verdict_of-requires-clause-graph : goal.verdict_of-requires-clause-graph
verdict_of-requires-clause-graph g c =
    rw (c.as_slice-5.ensures.value, c.as_slice-7.ensures.value)
    (IsGraphOf-read c.args.model.now (g.R.Rows.tables c.args.rows.now) c.model.inside.sig (ap (λ (m : Model). m.sig) c.model.view_is) c.in_ok-map.map.bonds c.as_slice.result.now c.in_ok-points.points.items c.as_slice.ensures
    c.in_ok-map.ensures.bonds c.in_ok-points.ensures.listed (length c.in_ok-steps.steps.items) (successors c.in_ok-steps.steps.items) c.in_ok-points.ensures.ascend
    (c.in_ok-steps.ensures.size ∙ ap length c.as_slice-3.ensures.value) (rw c.as_slice-3.ensures.value at c.in_ok-steps.ensures.steps))

pub verdict_of-requires-clause-types : goal.verdict_of-requires-clause-types
verdict_of-requires-clause-types g c = ap length c.as_slice-6.ensures.value ∙ c.in_ok-by_type.ensures.size ∙ c.types.ensures.count ∙ ap (λ (m : Model). length m.sig) c.model.view_is

pub verdict_of-requires-clause-numbers : goal.verdict_of-requires-clause-numbers
verdict_of-requires-clause-numbers g c =
    let types = c.types.ensures.count in
    let same = ap (λ (m : Model). length m.sig) c.model.view_is in
    λ a known. rw (c.as_slice-5.ensures.value, c.as_slice-6.ensures.value) (rw c.as_slice-2.ensures.value at (c.in_ok-by_type.ensures.numbers a (omega arith)))

pub returns-clause-sound : goal.returns-clause-sound
returns-clause-sound g c =
    IfOk-weaker c.verdict_of.result (IsVerdict c.args.model.now (g.R.Rows.tables c.args.rows.now)) _
    (BoundsSpecies-verdict c.args.model.now (g.R.Rows.tables c.args.rows.now) c.requires.tables (subst IsModel c.model.view_is c.model.invariant.0)) c.verdict_of.ensures
