use Rattle.std.proofs.Common.{◌≡◌, ◌≤◌, length, below_more, arith}
use Rattle.kasa_graph.proofs.PatternLemmas.{node_bound}
use Rattle.kasa_pre.specs.Acts.{TouchesOpenAt}
use Rattle.kasa_pre.proofs.acting.acts_on_all.Goals as goal

pub loop-n-preserved : goal.loop-n-preserved
loop-n-preserved c = below_more (λ k. TouchesOpenAt c.args.rule.now k → ⊥) c.loop-n.n c.loop-n.invariant (λ touches. absurd (let yes = c.touches_open_at.ensures.1 touches in let no = c.if-touches_open_at.false in cc))

pub returns : goal.returns
returns c =
    let count : c.nodes-n-end.result ≡ length c.args.rule.now.left = rw c.left.ensures.pattern at c.nodes-n-end.ensures.count in
    let all : c.nodes-n-end.result ≤ c.loop-n.n = c.loop-n-test.false in
    (λ e. absurd cc, λ (n, touches). absurd (c.loop-n.invariant n (let within = node_bound c.args.rule.now.left n touches.0 touches.1 in omega arith) touches))
