use Rattle.std.proofs.Common.{◌≡◌, ◌<◌, ◌≤◌, ◌^◌, ℕ, ◌∙◌, List, ap, map, length, subst, arith}
use Rattle.std.specs.Prelude.{slice_index}
use Rattle.kasa_digraph.specs.Graph.{successors}
use Rattle.kasa_digraph.specs.Weight.{AreWeights}
use Rattle.kasa_digraph.proofs.Flooding.{edge_from}
use Rattle.kasa_graph.specs.Signature.{state_counts}
use Rattle.kasa_rules.specs.declared.model.Model.{Model}
use Rattle.kasa_rules.specs.Reached.{IsModel}
use Rattle.kasa_polymers.specs.declared.map.Bond.{Bond}
use Rattle.kasa_polymers.specs.inner.Bound.{AreCappedBy, IsLargestSum}
use Rattle.kasa_polymers.proofs.SumLemmas.{site_of_step, site_of_type, number_within, verdict_within, verdict_beyond}
use Rattle.kasa_polymers.proofs.verdict.bound_of.Goals as goal

-- the counts over the signature of the model
counted : (model inside : Model) → inside ≡ model → (points : List Bond) (counts : List ℕ) → counts ≡ map (λ (p : Bond). length (state_counts inside.sig p.b)) points → counts ≡ map (λ (p : Bond). length (state_counts model.sig p.b)) points
counted model inside same points counts is = is ∙ ap (λ (m : Model). map (λ (p : Bond). length (state_counts m.sig p.b)) points) same

pub weights-requires-clause-within : goal.weights-requires-clause-within
weights-requires-clause-within g c = λ p q edge.
    let within = edge_from c.args.steps.now p q edge in
    let whole = c.requires.graph.whole in
    site_of_step c.args.model.now (g.R.Rows.tables c.args.rows.now) (subst IsModel c.model.view_is c.model.invariant.0) c.args.points.now (length c.args.steps.now) (successors c.args.steps.now) c.requires.graph
    c.as_slice.result.now c.as_slice-2.result.now (c.as_slice.ensures.value ∙ c.in_ok-sites.ensures)
    (c.as_slice-2.ensures.value ∙ counted c.args.model.now _ c.model.view_is c.args.points.now c.in_ok-counts.counts.items c.in_ok-counts.ensures) p q (omega arith) edge

pub largest_sum-requires-clause-within : goal.largest_sum-requires-clause-within
largest_sum-requires-clause-within g c = λ a q known h.
    let below = number_within c.args.points.now (λ p. p.a ≡ a) (successors c.args.by_type.now a) (c.requires.numbers a known) q h in
    let whole = c.requires.graph.whole in
    let size = ap length c.as_slice-4.ensures.value in
    let each = c.in_ok-values.ensures.each in omega arith

pub largest_sum-requires-clause-sites : goal.largest_sum-requires-clause-sites
largest_sum-requires-clause-sites g c = λ a q known h.
    site_of_type c.args.model.now (g.R.Rows.tables c.args.rows.now) (subst IsModel c.model.view_is c.model.invariant.0) c.args.points.now (length c.args.steps.now) (successors c.args.steps.now) c.requires.graph
    c.as_slice-3.result.now (c.as_slice-3.ensures.value ∙ c.in_ok-sites.ensures) a (successors c.args.by_type.now a) (c.requires.numbers a known) q h

pub returns-then-most-lt-MOST : goal.returns-then-most-lt-MOST
returns-then-most-lt-MOST g c =
    let tables = g.R.Rows.tables c.args.rows.now in
    let sites = c.in_ok-sites.sites.items in
    let found : AreWeights (successors c.args.steps.now) (length c.args.steps.now) (slice_index sites) (slice_index c.in_ok-counts.counts.items) c.in_ok-values.values.items = rw (c.as_slice.ensures.value, c.as_slice-2.ensures.value) at c.in_ok-values.ensures.weights in
    let largest : (w : ℕ → ℕ) → AreCappedBy w c.in_ok-values.values.items → IsLargestSum c.args.model.now tables (slice_index sites) w (successors c.args.by_type.now) (length c.args.model.now.sig) c.in_ok-most.most = rw (c.as_slice-3.ensures.value, c.as_slice-4.ensures.value) at c.in_ok-most.ensures in
    let less = c.if-most-lt-MOST.true in
    verdict_within c.args.model.now tables c.args.points.now (length c.args.steps.now) (successors c.args.steps.now) (successors c.args.by_type.now) c.requires.graph sites c.in_ok-counts.counts.items c.in_ok-values.values.items
    c.in_ok-sites.ensures (counted c.args.model.now _ c.model.view_is c.args.points.now c.in_ok-counts.counts.items c.in_ok-counts.ensures) c.requires.numbers found c.in_ok-values.ensures.each c.in_ok-most.most largest (omega arith)

pub returns : goal.returns
returns g c =
    let tables = g.R.Rows.tables c.args.rows.now in
    let sites = c.in_ok-sites.sites.items in
    let found : AreWeights (successors c.args.steps.now) (length c.args.steps.now) (slice_index sites) (slice_index c.in_ok-counts.counts.items) c.in_ok-values.values.items = rw (c.as_slice.ensures.value, c.as_slice-2.ensures.value) at c.in_ok-values.ensures.weights in
    let largest : (w : ℕ → ℕ) → AreCappedBy w c.in_ok-values.values.items → IsLargestSum c.args.model.now tables (slice_index sites) w (successors c.args.by_type.now) (length c.args.model.now.sig) c.in_ok-most.most = rw (c.as_slice-3.ensures.value, c.as_slice-4.ensures.value) at c.in_ok-most.ensures in
    let more = c.if-most-lt-MOST.false in
    verdict_beyond c.args.model.now tables c.args.points.now (length c.args.steps.now) (successors c.args.steps.now) (successors c.args.by_type.now) c.requires.graph sites c.in_ok-counts.counts.items c.in_ok-values.values.items
    c.in_ok-sites.ensures (counted c.args.model.now _ c.model.view_is c.args.points.now c.in_ok-counts.counts.items c.in_ok-counts.ensures) c.requires.numbers found c.in_ok-values.ensures.each c.in_ok-most.most largest (omega arith)
