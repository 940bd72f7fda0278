use Rattle.std.proofs.Common.{◌<◌, length, ap, arith}
use Rattle.kasa_lists.proofs.Elements.{some_at}
use Rattle.kasa_influence.proofs.LonesLemmas.{lone-more, lones-of_rule}
use Rattle.kasa_influence.proofs.lone.push_lones.Goals as goal

pub loop-node-preserved : goal.loop-node-preserved
loop-node-preserved c =
    let within : c.loop-node.node < length c.args.rule.now.left = let left = ap length c.left.ensures.pattern in let count = c.nodes-node-end.ensures.count in let h = c.loop-node-test.true in omega arith in
    let x = some_at c.args.rule.now.left c.loop-node.node within in
    rw c.in_ok-push.ensures.items
    (lone-more c.args.rule.now c.args.number c.loop-node.node x.0 c.in_ok-pattern.pattern c.args.found.now.items c.loop-node.found.items x.1 ((rw c.left-in-loop-node.ensures.pattern at c.in_ok-pattern.ensures) x.0 x.1) c.loop-node.invariant)

pub returns : goal.returns
returns c =
    lones-of_rule c.args.rule.now c.args.number c.loop-node.node c.args.found.now.items c.loop-node.found.items (let left = ap length c.left.ensures.pattern in let count = c.nodes-node-end.ensures.count in let past = c.loop-node-test.false in omega arith) c.loop-node.invariant
