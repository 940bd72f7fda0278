use Rattle.std.proofs.Common.{◌≡◌, ◌<◌, ◌≤◌, length, ap, ◌∙◌, arith}
use Rattle.kasa_graph.specs.Signature.{state_counts, HasSite}
use Rattle.kasa_graph.proofs.SiteLemmas.{HasNodeSite-over}
use Rattle.kasa_choose.specs.ViewPlan.{Mentions, IsLeftNode}
use Rattle.kasa_choose.proofs.PlanLists.{told_not, IsListBelow-add, IsListBelow-skip, IsListBelow-end}
use Rattle.kasa_choose.proofs.MentionLemmas.{mentions_within}
use Rattle.kasa_choose.proofs.views.mentioned_sites.Goals as goal
use Rattle.kasa_choose.proofs.views.mentioned_sites.Goals.{After-agent, then-mentions+in_ok-push, else-mentions}

node_typed : (c : After-agent) → IsLeftNode c.args.rule.now c.args.node c.agent.result
node_typed c = rw c.left.ensures.pattern at c.agent.ensures

pub mentions-requires : goal.mentions-requires
mentions-requires c =
    let has : HasSite c.args.sig.now c.agent.result c.loop-number.number = rw c.sites-number-end.ensures.counts at c.loop-number-test.true in
    HasNodeSite-over c.args.sig.now c.args.rule.now.left c.requires.over.over.left c.args.node c.agent.result c.loop-number.number (node_typed (goal.at.mentions-requires c).After-agent) has

pub loop-number-preserved : goal.loop-number-preserved
loop-number-preserved c = elim c.if-mentions.branch [
  | then-mentions+in_ok-push w ↦ rw (ap (λ v. v.items) w.sites-is ∙ w.in_ok-push.ensures.items)
      (IsListBelow-add (Mentions c.args.rule.now c.args.node) _ _ (c.mentions.ensures.0 w.if-mentions.true) c.loop-number.invariant)
  | else-mentions w ↦ rw (ap (λ v. v.items) w.sites-is)
      (IsListBelow-skip (Mentions c.args.rule.now c.args.node) _ _ (told_not (Mentions c.args.rule.now c.args.node c.loop-number.number) _ w.if-mentions.false c.mentions.ensures.1) c.loop-number.invariant)
]

pub returns : goal.returns
returns c =
    let node = node_typed (goal.at.returns c).After-agent in
    let count : c.sites-number-end.result ≡ length (state_counts c.args.sig.now c.agent.result) = c.sites-number-end.ensures.counts in
    let all : c.sites-number-end.result ≤ c.loop-number.number = c.loop-number-test.false in
    IsListBelow-end (Mentions c.args.rule.now c.args.node) _ _
    (λ s mentions. let has : s < length (state_counts c.args.sig.now c.agent.result) = mentions_within c.args.sig.now c.args.rule.now c.args.node c.agent.result s c.requires.over node mentions in omega arith) c.loop-number.invariant
