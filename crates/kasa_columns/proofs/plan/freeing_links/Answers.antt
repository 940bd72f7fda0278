use Rattle.std.proofs.Common.{◌<◌, inl, inr, ap, length, arith}
use Rattle.kasa_graph.proofs.PatternLemmas.{node_bound}
use Rattle.kasa_columns.proofs.Pushing.{last_or}
use Rattle.kasa_columns.proofs.plan.freeing_links.Goals as goal

pub loop-n-preserved : goal.loop-n-preserved
loop-n-preserved c n less a y touch leaves = elim (last_or n c.loop-n.n less) [
  | inl lower ↦ c.in_ok-push_freeing.ensures.keeps _ (c.loop-n.invariant n lower a y touch leaves)
  | inr same ↦ c.in_ok-push_freeing.ensures.frees a y (rw same at touch) (rw same at leaves)
]

pub returns : goal.returns
returns c n a y touch leaves =
    let within : n < length c.args.rule.now.left = node_bound c.args.rule.now.left n y touch.1 in
    let end = ap length c.left.ensures.pattern in
    let count = c.nodes-n-end.ensures.count in
    let past = c.loop-n-test.false in
    c.loop-n.invariant n (omega arith) a y touch leaves
