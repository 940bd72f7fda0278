use Rattle.std.proofs.Common.{arith, sym, ◌∙◌, ◌≡◌}
use Rattle.std.proofs.lemmas.Option.{same_Some}
use Rattle.kasa_graph.proofs.ListLemmas.{Has-left}
use Rattle.kasa_graph.proofs.SiteLemmas.{HasSite-over}
use Rattle.kasa_columns.proofs.PlanLemmas.{frees_next, frees_no_more}
use Rattle.kasa_columns.proofs.plan.push_freeing.Goals.{then-frees+in_ok-push, else-frees}
use Rattle.kasa_columns.proofs.plan.push_freeing.Goals as goal

pub loop-y-preserved : goal.loop-y-preserved
loop-y-preserved c = elim c.if-frees.branch [
  | then-frees+in_ok-push w ↦
      rw (w.links-is, w.in_ok-push.ensures.items)
      (record {
        keeps = λ link has. Has-left c.loop-y.links.items _ link (c.loop-y.invariant.keeps link has);
        frees = frees_next c.args.rule.now c.args.node c.agent-agent.result c.loop-y.y c.loop-y.links.items c.loop-y.invariant.frees;
      })
  | else-frees w ↦
      rw w.links-is
      (record {
        keeps = c.loop-y.invariant.keeps;
        frees = frees_no_more c.args.rule.now c.args.node c.agent-agent.result c.loop-y.y c.loop-y.links.items c.loop-y.invariant.frees (rw w.if-frees.false at c.frees.ensures);
      })
]

pub returns-clause-frees : goal.returns-clause-frees
returns-clause-frees c a y touch leaves =
    let typed = rw c.left.ensures.pattern at c.agent-agent.ensures in
    let same : c.agent-agent.result ≡ a = same_Some _ a (sym typed ∙ touch.0) in
    let has = HasSite-over c.args.sig.now c.args.rule.now.left c.requires.over.left c.args.node a y touch.0 touch.1 in
    let within = rw (← same) at has in
    let counts = c.sites-y-end.ensures.counts in
    let past = c.loop-y-test.false in
    rw (← same) (c.loop-y.invariant.frees y (omega arith) touch.1 touch.2 leaves)
