use Rattle.std.proofs.Common.{◌≡◌, ◌≤◌, length, ap, ◌∙◌, arith}
use Rattle.std.specs.List.{flat_map}
use Rattle.kasa_graph.specs.Signature.{state_counts}
use Rattle.kasa_choose.specs.Kept.{keep_all}
use Rattle.kasa_choose.specs.Views.{numbers}
use Rattle.kasa_choose.specs.Own.{partners_among}
use Rattle.kasa_choose.specs.Parallel.{over_site}
use Rattle.kasa_choose.proofs.TurnLemmas.{number_turn}
use Rattle.kasa_choose.proofs.parallel.add_type.Goals as goal

pub loop-number-preserved : goal.loop-number-preserved
loop-number-preserved c = number_turn c.args.planned (over_site (partners_among c.args.own.now) c.args.agent (length (state_counts c.args.sig.now c.args.agent))) c.loop-number.number c.loop-number.planned c.in_ok-planned.planned c.loop-number.invariant c.in_ok-planned.ensures

pub returns : goal.returns
returns c =
    let count : c.sites-number-end.result ≡ length (state_counts c.args.sig.now c.args.agent) = c.sites-number-end.ensures.counts in
    let most : c.loop-number.number ≤ c.sites-number-end.result = c.loop-number.auto.number-end in
    let least : c.sites-number-end.result ≤ c.loop-number.number = c.loop-number-test.false in
    let all : c.loop-number.number ≡ length (state_counts c.args.sig.now c.args.agent) = omega arith in
    c.loop-number.invariant ∙ ap (λ n. keep_all c.args.planned (flat_map (over_site (partners_among c.args.own.now) c.args.agent (length (state_counts c.args.sig.now c.args.agent))) (numbers n))) all
