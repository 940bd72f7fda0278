use Rattle.std.proofs.Common.{arith}
use Rattle.kasa_graph.proofs.SiteLemmas.{HasNodeSite-over}
use Rattle.kasa_influence.proofs.AddsLemmas.{Adds-start}
use Rattle.kasa_influence.proofs.OpenLemmas.{IsOpenAt, opened, closed, all_sites}
use Rattle.kasa_influence.proofs.ask.push_open.Goals.{then-is_open+in_ok-push, else-is_open}
use Rattle.kasa_influence.proofs.ask.push_open.Goals as goal

pub is_open-requires : goal.is_open-requires
is_open-requires c =
    HasNodeSite-over c.args.sig.now c.args.rule.now.left c.requires.over.left c.args.node c.agent.result c.loop-site.site (rw c.left.ensures.pattern at c.agent.ensures) (let count = c.sites-site-end.ensures.counts in omega arith)

pub loop-site-init : goal.loop-site-init
loop-site-init c = Adds-start (IsOpenAt c.args.rule.now c.args.node) c.args.found.now.items

pub loop-site-preserved : goal.loop-site-preserved
loop-site-preserved c = elim c.if-is_open.branch [
  | then-is_open+in_ok-push w ↦ rw (w.found-is, w.in_ok-push.ensures.items) (opened c.args.rule.now c.args.node c.loop-site.site c.is_open.result c.is_open.ensures c.args.found.now.items c.loop-site.found.items c.loop-site.invariant w.if-is_open.true)
  | else-is_open w ↦ rw w.found-is (closed c.args.rule.now c.args.node c.loop-site.site c.is_open.result c.is_open.ensures c.args.found.now.items c.loop-site.found.items c.loop-site.invariant w.if-is_open.false)
]

pub returns : goal.returns
returns c =
    all_sites c.args.sig.now c.args.rule.now c.requires.over c.args.node c.agent.result c.loop-site.site c.args.found.now.items c.loop-site.found.items (rw c.left.ensures.pattern at c.agent.ensures) (let count = c.sites-site-end.ensures.counts in omega arith) c.loop-site.invariant
