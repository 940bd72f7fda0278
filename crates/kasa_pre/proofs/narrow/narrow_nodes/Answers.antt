use Rattle.std.proofs.Common.{arith}
use Rattle.kasa_pre.specs.Asked.{NodesBefore, NodeBefore}
use Rattle.kasa_pre.proofs.NarrowLemmas.{IsNarrowed-next, HasNone-next}
use Rattle.kasa_pre.proofs.AskedLoops.{nodes-all}
use Rattle.kasa_pre.proofs.narrow.narrow_nodes.Goals as goal

pub returns-then-not-narrow_node : goal.returns-then-not-narrow_node
returns-then-not-narrow_node c =
    HasNone-next c.args.asked.now.sig.now c.args.g.now (NodeBefore c.args.asked.now.rule.now c.args.asked.now.v.now c.args.asked.now.stands.now c.args.asked.now.freed.now) (NodesBefore c.args.asked.now.rule.now c.args.asked.now.v.now c.args.asked.now.stands.now c.args.asked.now.freed.now) c.loop-node.node c.loop-node.g c.loop-node.invariant
    (rw c.if-not-narrow_node.true at c.narrow_node.ensures) (λ h implied all. all)

pub loop-node-preserved : goal.loop-node-preserved
loop-node-preserved c =
    IsNarrowed-next c.args.asked.now.sig.now c.args.g.now (NodeBefore c.args.asked.now.rule.now c.args.asked.now.v.now c.args.asked.now.stands.now c.args.asked.now.freed.now) c.loop-node.node c.loop-node.g c.narrow_node.new.g c.loop-node.invariant
    (rw c.if-not-narrow_node.false at c.narrow_node.ensures)

pub returns : goal.returns
returns c = nodes-all c.args.asked.now.sig.now c.args.asked.now.rule.now c.args.asked.now.v.now c.args.asked.now.stands.now c.args.asked.now.places.now c.requires.asked c.args.asked.now.freed.now c.loop-node.node c.args.g.now c.loop-node.g (omega arith) c.loop-node.invariant
