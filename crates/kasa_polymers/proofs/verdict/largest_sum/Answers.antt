use Rattle.std.proofs.Common.{◌≤◌, ap, length, arith}
use Rattle.std.specs.Prelude.{slice_index}
use Rattle.kasa_digraph.specs.Graph.{successors}
use Rattle.kasa_rules.specs.declared.model.Model.{Model}
use Rattle.kasa_polymers.proofs.BoundLemmas.{largest_more, largest_all}
use Rattle.kasa_polymers.proofs.verdict.largest_sum.Goals as goal

pub loop-a-preserved : goal.loop-a-preserved
loop-a-preserved g c = record {
  largest = λ weight capped. rw c.max-most.ensures
      (largest_more c.args.model.now (g.R.Rows.tables c.args.rows.now) (slice_index c.args.sites.now) weight (successors c.args.by_type.now) c.loop-a.a c.loop-a.most c.in_ok-sum.sum (c.loop-a.invariant.largest weight capped) (c.in_ok-sum.ensures weight capped));
}

pub returns : goal.returns
returns g c =
    let types = ap (λ (m : Model). length m.sig) c.model.view_is in
    let count = c.types-a-end.ensures.count in
    let all : length c.args.model.now.sig ≤ c.loop-a.a = omega arith in
    λ weight capped. largest_all c.args.model.now (g.R.Rows.tables c.args.rows.now) (slice_index c.args.sites.now) weight (successors c.args.by_type.now) (length c.args.model.now.sig) c.loop-a.a c.loop-a.most all (c.loop-a.invariant.largest weight capped)
