use Rattle.std.proofs.Common.{◌≡◌, ◌≤◌, length, ap, ◌∙◌, sym, arith, [], ◌∷◌, ◌++◌}
use Rattle.std.specs.List.{filter}
use Rattle.kasa_graph.specs.Signature.{state_counts, HasSite}
use Rattle.kasa_graph.proofs.SiteLemmas.{HasNodeSite-over}
use Rattle.kasa_choose.specs.Views.{numbers}
use Rattle.kasa_choose.specs.Across.{is_further, type_of}
use Rattle.kasa_choose.specs.ViewPlan.{IsLeftNode}
use Rattle.kasa_choose.proofs.AcrossLemmas.{typed}
use Rattle.kasa_choose.proofs.TurnLemmas.{filter_more, filter_less}
use Rattle.kasa_choose.proofs.sites.further_sites.Goals as goal
use Rattle.kasa_choose.proofs.sites.further_sites.Goals.{After-agent, then-is_further+in_ok-push, else-is_further}

node_typed : (c : After-agent) → IsLeftNode c.args.rule.now c.args.node c.agent.result
node_typed c = rw c.left.ensures.pattern at c.agent.ensures

pub is_further-requires : goal.is_further-requires
is_further-requires c =
    let has : HasSite c.args.sig.now c.agent.result c.loop-number.number = rw c.sites-number-end.ensures.counts at c.loop-number-test.true in
    HasNodeSite-over c.args.sig.now c.args.rule.now.left c.requires.over.over.left c.args.node c.agent.result c.loop-number.number (node_typed (goal.at.is_further-requires c).After-agent) has

pub loop-number-preserved : goal.loop-number-preserved
loop-number-preserved c = elim c.if-is_further.branch [
  | then-is_further+in_ok-push w ↦ rw (ap (λ v. v.items) w.sites-is ∙ w.in_ok-push.ensures.items ∙ ap (λ xs. xs ++ c.loop-number.number ∷ []) c.loop-number.invariant)
      (sym (filter_more (is_further c.args.rule.now c.args.node c.args.but) c.loop-number.number (sym c.is_further.ensures ∙ w.if-is_further.true)))
  | else-is_further w ↦ rw (ap (λ v. v.items) w.sites-is ∙ c.loop-number.invariant)
      (sym (filter_less (is_further c.args.rule.now c.args.node c.args.but) c.loop-number.number (sym c.is_further.ensures ∙ w.if-is_further.false)))
]

pub returns : goal.returns
returns c =
    let type : type_of c.args.rule.now c.args.node ≡ c.agent.result = typed c.args.rule.now c.args.node c.agent.result (node_typed (goal.at.returns c).After-agent) in
    let count : c.sites-number-end.result ≡ length (state_counts c.args.sig.now c.agent.result) = c.sites-number-end.ensures.counts in
    let most : c.loop-number.number ≤ c.sites-number-end.result = c.loop-number.auto.number-end in
    let least : c.sites-number-end.result ≤ c.loop-number.number = c.loop-number-test.false in
    let all : c.loop-number.number ≡ length (state_counts c.args.sig.now (type_of c.args.rule.now c.args.node)) = rw type (let e : c.loop-number.number ≡ c.sites-number-end.result = omega arith in e ∙ count) in
    c.loop-number.invariant ∙ ap (λ n. filter (is_further c.args.rule.now c.args.node c.args.but) (numbers n)) all
