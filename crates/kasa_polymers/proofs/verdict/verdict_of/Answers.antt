use Rattle.std.proofs.Common.{length}
use Rattle.std.proofs.lemmas.Result.{IfOk-weaker}
use Rattle.kasa_digraph.specs.Graph.{successors}
use Rattle.kasa_polymers.specs.Verdict.{IsVerdict}
use Rattle.kasa_polymers.specs.inner.Bound.{IsCycleOf}
use Rattle.kasa_polymers.proofs.NumberLemmas.{IsGraph-steps, IsVerdict-cycle}
use Rattle.kasa_polymers.proofs.verdict.verdict_of.Goals as goal

pub order-requires-clause-graph : goal.order-requires-clause-graph
order-requires-clause-graph g c = IsGraph-steps c.args.model.now (g.R.Rows.tables c.args.rows.now) c.args.points.now c.args.steps.now c.requires.graph

pub cycle_of-requires-clause-graph : goal.cycle_of-requires-clause-graph
cycle_of-requires-clause-graph g c = IsGraph-steps c.args.model.now (g.R.Rows.tables c.args.rows.now) c.args.points.now c.args.steps.now c.requires.graph

pub returns-in-None : goal.returns-in-None
returns-in-None g c =
    let tables = g.R.Rows.tables c.args.rows.now in
    IfOk-weaker c.cycle_of.result (IsCycleOf c.args.points.now (successors c.args.steps.now)) (IsVerdict c.args.model.now tables)
    (IsVerdict-cycle c.args.model.now tables c.args.points.now (length c.args.steps.now) (successors c.args.steps.now) c.requires.graph) c.cycle_of.ensures
