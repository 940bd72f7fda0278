use Rattle.std.proofs.Common.{◌≡◌, ◌≤◌, ℕ, List, length, ap, ◌∙◌, arith}
use Rattle.std.specs.List.{flat_map}
use Rattle.kasa_graph.specs.Pattern.{link_test}
use Rattle.kasa_graph.specs.Signature.{state_counts, HasSite}
use Rattle.kasa_graph.proofs.SiteLemmas.{HasNodeSite-over}
use Rattle.kasa_families.specs.declared.family.Family.{Family}
use Rattle.kasa_choose.specs.Kept.{keep_all}
use Rattle.kasa_choose.specs.Views.{numbers}
use Rattle.kasa_choose.specs.Across.{type_of}
use Rattle.kasa_choose.specs.Chains.{over_second}
use Rattle.kasa_choose.specs.ViewPlan.{IsLeftNode}
use Rattle.kasa_choose.proofs.AcrossLemmas.{typed}
use Rattle.kasa_choose.proofs.TurnLemmas.{number_turn}
use Rattle.kasa_choose.proofs.chains.add_seconds.Goals as goal
use Rattle.kasa_choose.proofs.chains.add_seconds.Goals.{After-agent}

node_typed : (c : After-agent) → IsLeftNode c.args.rule.now c.args.first.now.node c.agent.result
node_typed c = rw c.left.ensures.pattern at c.agent.ensures

seconds : (c : After-agent) → ℕ → List Family
seconds c z = over_second c.args.sig.now c.args.rule.now c.args.first.now.partner c.args.first.now.partner_site c.args.first.now.node c.args.first.now.site z (link_test c.args.rule.now.left c.args.first.now.node z)

pub add_second-requires-clause-site : goal.add_second-requires-clause-site
add_second-requires-clause-site c =
    let has : HasSite c.args.sig.now c.agent.result c.loop-number.number = rw c.sites-number-end.ensures.counts at c.loop-number-test.true in
    HasNodeSite-over c.args.sig.now c.args.rule.now.left c.requires.over.over.left c.args.first.now.node c.agent.result c.loop-number.number (node_typed (goal.at.add_second-requires-clause-site c).After-agent) has

pub loop-number-preserved : goal.loop-number-preserved
unfolding seconds
loop-number-preserved c = number_turn c.args.planned (seconds (goal.at.loop-number-preserved c).After-agent) c.loop-number.number c.loop-number.planned c.in_ok-planned.planned c.loop-number.invariant c.in_ok-planned.ensures

pub returns : goal.returns
unfolding seconds
returns c =
    let type : type_of c.args.rule.now c.args.first.now.node ≡ c.agent.result = typed c.args.rule.now c.args.first.now.node c.agent.result (node_typed (goal.at.returns c).After-agent) in
    let count : c.sites-number-end.result ≡ length (state_counts c.args.sig.now c.agent.result) = c.sites-number-end.ensures.counts in
    let most : c.loop-number.number ≤ c.sites-number-end.result = c.loop-number.auto.number-end in
    let least : c.sites-number-end.result ≤ c.loop-number.number = c.loop-number-test.false in
    let all : c.loop-number.number ≡ length (state_counts c.args.sig.now (type_of c.args.rule.now c.args.first.now.node)) = rw type (let e : c.loop-number.number ≡ c.sites-number-end.result = omega arith in e ∙ count) in
    c.loop-number.invariant ∙ ap (λ n. keep_all c.args.planned (flat_map (seconds (goal.at.returns c).After-agent) (numbers n))) all
