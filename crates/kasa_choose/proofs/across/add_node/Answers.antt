use Rattle.std.proofs.Common.{◌≡◌, ◌≤◌, length, ap, ◌∙◌, arith}
use Rattle.std.specs.List.{flat_map}
use Rattle.kasa_graph.specs.Pattern.{link_test}
use Rattle.kasa_graph.specs.Signature.{state_counts, HasSite}
use Rattle.kasa_graph.proofs.SiteLemmas.{HasNodeSite-over}
use Rattle.kasa_choose.specs.Kept.{keep_all}
use Rattle.kasa_choose.specs.Views.{numbers}
use Rattle.kasa_choose.specs.Across.{over_test, type_of}
use Rattle.kasa_choose.specs.ViewPlan.{IsLeftNode}
use Rattle.kasa_choose.proofs.AcrossLemmas.{typed}
use Rattle.kasa_choose.proofs.TurnLemmas.{number_turn}
use Rattle.kasa_choose.proofs.across.add_node.Goals as goal
use Rattle.kasa_choose.proofs.across.add_node.Goals.{After-agent}

node_typed : (c : After-agent) → IsLeftNode c.args.rule.now c.args.node c.agent.result
node_typed c = rw c.left.ensures.pattern at c.agent.ensures

pub add_site-requires-clause-site : goal.add_site-requires-clause-site
add_site-requires-clause-site c =
    let has : HasSite c.args.sig.now c.agent.result c.loop-number.number = rw c.sites-number-end.ensures.counts at c.loop-number-test.true in
    HasNodeSite-over c.args.sig.now c.args.rule.now.left c.requires.over.over.left c.args.node c.agent.result c.loop-number.number (node_typed (goal.at.add_site-requires-clause-site c).After-agent) has

pub loop-number-preserved : goal.loop-number-preserved
loop-number-preserved c = number_turn c.args.planned (λ x. over_test c.args.sig.now c.args.rule.now c.args.node x (link_test c.args.rule.now.left c.args.node x)) c.loop-number.number c.loop-number.planned c.in_ok-planned.planned c.loop-number.invariant c.in_ok-planned.ensures

pub returns : goal.returns
returns c =
    let type : type_of c.args.rule.now c.args.node ≡ c.agent.result = typed c.args.rule.now c.args.node c.agent.result (node_typed (goal.at.returns c).After-agent) in
    let count : c.sites-number-end.result ≡ length (state_counts c.args.sig.now c.agent.result) = c.sites-number-end.ensures.counts in
    let most : c.loop-number.number ≤ c.sites-number-end.result = c.loop-number.auto.number-end in
    let least : c.sites-number-end.result ≤ c.loop-number.number = c.loop-number-test.false in
    let all : c.loop-number.number ≡ length (state_counts c.args.sig.now (type_of c.args.rule.now c.args.node)) = rw type (let e : c.loop-number.number ≡ c.sites-number-end.result = omega arith in e ∙ count) in
    c.loop-number.invariant ∙ ap (λ n. keep_all c.args.planned (flat_map (λ x. over_test c.args.sig.now c.args.rule.now c.args.node x (link_test c.args.rule.now.left c.args.node x)) (numbers n))) all
