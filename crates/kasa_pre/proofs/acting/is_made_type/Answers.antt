use Rattle.std.proofs.Common.{◌≤◌, arith}
use Rattle.kasa_pre.proofs.ActsLemmas.{made_within}
use Rattle.kasa_pre.proofs.acting.is_made_type.Goals as goal

pub returns : goal.returns
returns c =
    let count = c.made-k-end.ensures.count in
    let all : c.made-k-end.result ≤ c.loop-k.k = c.loop-k-test.false in
    (λ e. absurd cc, λ (k, at). absurd (c.loop-k.invariant k (let within = made_within c.args.rule.now k c.args.agent at in omega arith) at))
