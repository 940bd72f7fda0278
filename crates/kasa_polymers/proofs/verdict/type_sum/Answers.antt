use Rattle.std.proofs.Common.{◌<◌, ◌≡◌, ◌∙◌, ℕ, inr, true, refl, ap, subst, List, length, arith}
use Rattle.std.specs.Prelude.{slice_index}
use Rattle.kasa_digraph.specs.Graph.{has, successors}
use Rattle.kasa_graph.specs.Signature.{state_counts}
use Rattle.kasa_rules.specs.declared.model.Model.{Model}
use Rattle.kasa_polymers.specs.StepGraph.{IsAllowedType}
use Rattle.kasa_polymers.proofs.SumLemmas.{sum_found}
use Rattle.kasa_polymers.proofs.verdict.type_sum.Goals as goal

pub returns-then-not-is_allowed : goal.returns-then-not-is_allowed
returns-then-not-is_allowed g c =
    let refused : ¬ IsAllowedType c.args.model.now (g.R.Rows.tables c.args.rows.now) c.args.a = rw (← c.model.view_is) (λ ok. let yes = c.in_ok-is_allowed.ensures.1 ok.1 in let unmet = c.if-not-is_allowed.true in absurd cc) in
    λ weight capped. inr (refused, refl)

pub weight-requires-clause-grouped : goal.weight-requires-clause-grouped
weight-requires-clause-grouped g c = λ q h.
    let sized = c.requires.sized in
    let below = c.requires.within q (subst (λ (xs : List ℕ). has xs q ≡ true) c.points_from-leaving.ensures h) in omega arith

pub weight-requires-clause-valued : goal.weight-requires-clause-valued
weight-requires-clause-valued g c = λ q h. c.requires.within q (subst (λ (xs : List ℕ). has xs q ≡ true) c.points_from-leaving.ensures h)

pub weight-requires-clause-counted : goal.weight-requires-clause-counted
weight-requires-clause-counted g c = λ q h.
    let site = c.requires.sites q (subst (λ (xs : List ℕ). has xs q ≡ true) c.points_from-leaving.ensures h) in
    let count = c.sites-count.ensures.counts in
    let same = ap (λ (m : Model). length (state_counts m.sig c.args.a)) c.model.view_is in omega arith

pub returns : goal.returns
returns g c =
    let model = c.args.model.now in
    let tables = g.R.Rows.tables c.args.rows.now in
    let allowed : IsAllowedType model tables c.args.a = (c.requires.known, rw (ap (λ (m : Model). m.sig) c.model.view_is) at (c.in_ok-is_allowed.ensures.0 c.if-not-is_allowed.false)) in
    let count = c.sites-count.ensures.counts ∙ ap (λ (m : Model). length (state_counts m.sig c.args.a)) c.model.view_is in
    sum_found model tables (slice_index c.args.sites.now) c.args.values.now (successors c.args.by_type.now) c.args.a c.sites-count.result c.in_ok-sum.sum c.points_from-leaving.result.now
    c.points_from-leaving.ensures count c.requires.within allowed c.in_ok-sum.ensures
