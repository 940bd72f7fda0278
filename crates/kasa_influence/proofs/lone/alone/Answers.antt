use Rattle.std.proofs.Common.{arith}
use Rattle.kasa_lists.proofs.Elements.{some_at}
use Rattle.kasa_graph.proofs.SiteLemmas.{HasNodeSite-over}
use Rattle.kasa_influence.proofs.LoneLemmas.{type_known-over}
use Rattle.kasa_influence.proofs.AloneSteps.{IsCopied-start, IsCopied-next, IsCopied-all, copied_site, copied_link}
use Rattle.kasa_influence.proofs.lone.alone.Goals as goal

pub add_node-requires-clause-known : goal.add_node-requires-clause-known
add_node-requires-clause-known c = type_known-over c.args.sig.now c.args.g.now c.requires.over c.args.node c.agent-agent.result c.agent-agent.ensures

pub copy_tests-requires-clause-from : goal.copy_tests-requires-clause-from
copy_tests-requires-clause-from c = HasNodeSite-over c.args.sig.now c.args.g.now c.requires.over c.args.node c.agent-agent.result c.loop-site.site c.agent-agent.ensures (let count = c.sites-site-end.ensures.counts in omega arith)

pub copy_tests-requires-clause-to : goal.copy_tests-requires-clause-to
copy_tests-requires-clause-to c =
    copied_site c.args.g.now c.args.node c.loop-site.site c.loop-site.v c.loop-site.invariant (HasNodeSite-over c.args.sig.now c.args.g.now c.requires.over c.args.node c.agent-agent.result c.loop-site.site c.agent-agent.ensures (let count = c.sites-site-end.ensures.counts in omega arith))

pub copy_tests-requires-clause-untested : goal.copy_tests-requires-clause-untested
copy_tests-requires-clause-untested c =
    copied_link c.args.g.now c.args.node c.loop-site.site c.loop-site.v c.loop-site.invariant (HasNodeSite-over c.args.sig.now c.args.g.now c.requires.over c.args.node c.agent-agent.result c.loop-site.site c.agent-agent.ensures (let count = c.sites-site-end.ensures.counts in omega arith))

pub loop-site-init : goal.loop-site-init
loop-site-init c =
    let x = some_at c.args.g.now c.args.node c.requires.exists in
    rw (c.in_ok-add_node.ensures.ok.1, c.new-v.ensures) (IsCopied-start c.args.g.now c.args.node x.0 x.1 c.args.sig.now c.agent-agent.result c.requires.over c.agent-agent.ensures)

pub loop-site-preserved : goal.loop-site-preserved
loop-site-preserved c =
    let x = some_at c.args.g.now c.args.node c.requires.exists in
    rw c.copy_tests.ensures (IsCopied-next c.args.g.now c.args.node x.0 x.1 c.loop-site.site c.loop-site.v
    (HasNodeSite-over c.args.sig.now c.args.g.now c.requires.over c.args.node c.agent-agent.result c.loop-site.site c.agent-agent.ensures (let count = c.sites-site-end.ensures.counts in omega arith)) c.loop-site.invariant)

pub returns : goal.returns
returns c = λ x at.
    IsCopied-all c.args.g.now c.args.node x at c.args.sig.now c.agent-agent.result c.loop-site.site c.loop-site.v c.requires.over c.agent-agent.ensures (let count = c.sites-site-end.ensures.counts in omega arith) c.loop-site.invariant
