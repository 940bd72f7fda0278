use Rattle.std.proofs.Common.{◌≡◌, ◌≤◌, length, ap, ◌∙◌, arith}
use Rattle.std.specs.List.{flat_map}
use Rattle.kasa_choose.specs.Kept.{keep_all}
use Rattle.kasa_choose.specs.Views.{numbers}
use Rattle.kasa_choose.specs.Across.{over_node}
use Rattle.kasa_choose.proofs.TurnLemmas.{number_turn}
use Rattle.kasa_choose.proofs.across.add_rule.Goals as goal

pub loop-number-preserved : goal.loop-number-preserved
loop-number-preserved c = number_turn c.args.planned (over_node c.args.sig.now c.args.rule.now) c.loop-number.number c.loop-number.planned c.in_ok-planned.planned c.loop-number.invariant c.in_ok-planned.ensures

pub returns : goal.returns
returns c =
    let count : c.nodes-number-end.result ≡ length c.args.rule.now.left = c.nodes-number-end.ensures.count ∙ ap length c.left.ensures.pattern in
    let most : c.loop-number.number ≤ c.nodes-number-end.result = c.loop-number.auto.number-end in
    let least : c.nodes-number-end.result ≤ c.loop-number.number = c.loop-number-test.false in
    let all : c.loop-number.number ≡ length c.args.rule.now.left = omega arith in
    c.loop-number.invariant ∙ ap (λ n. keep_all c.args.planned (flat_map (over_node c.args.sig.now c.args.rule.now) (numbers n))) all
