use Rattle.std.proofs.Common.{[], ap, length, arith}
use Rattle.kasa_influence.proofs.AddsLemmas.{Adds-start, Adds-more}
use Rattle.kasa_influence.proofs.OpenLemmas.{IsOpenOf, all_nodes}
use Rattle.kasa_influence.proofs.ask.open_sites.Goals as goal

pub loop-node-init : goal.loop-node-init
loop-node-init c = rw c.new-found.ensures.items (Adds-start (IsOpenOf c.args.rule.now) [])

pub loop-node-preserved : goal.loop-node-preserved
loop-node-preserved c = Adds-more (IsOpenOf c.args.rule.now) c.loop-node.node [] c.loop-node.found.items c.push_open.new.found.items c.loop-node.invariant c.in_ok-push_open.ensures

pub returns : goal.returns
returns c =
    all_nodes c.args.sig.now c.args.rule.now c.requires c.loop-node.node c.loop-node.found.items (let count = c.nodes-node-end.ensures.count in let left = ap length c.left.ensures.pattern in omega arith) c.loop-node.invariant
