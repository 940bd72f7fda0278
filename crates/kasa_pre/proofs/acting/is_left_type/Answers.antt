use Rattle.std.proofs.Common.{◌≡◌, ◌≤◌, length, arith}
use Rattle.kasa_graph.proofs.FitLemmas.{agent_at_within}
use Rattle.kasa_pre.proofs.acting.is_left_type.Goals as goal

pub returns : goal.returns
returns c =
    let count : c.nodes-n-end.result ≡ length c.args.rule.now.left = rw c.left.ensures.pattern at c.nodes-n-end.ensures.count in
    let all : c.nodes-n-end.result ≤ c.loop-n.n = c.loop-n-test.false in
    (λ e. absurd cc, λ (n, at). absurd (c.loop-n.invariant n (let within = agent_at_within c.args.rule.now.left n c.args.agent at in omega arith) at))
