use Rattle.std.proofs.Common.{◌≡◌, ◌++◌, ◌∙◌, ap, length, arith}
use Rattle.std.specs.List.{flat_map}
use Rattle.kasa_report.specs.Section.{all_lines}
use Rattle.kasa_report.specs.ContactText.{numbers, type_lines}
use Rattle.kasa_report.proofs.TextLemmas.{lines_more}
use Rattle.kasa_report.proofs.map.write_types.Goals as goal

pub loop-agent-preserved : goal.loop-agent-preserved
loop-agent-preserved c = lines_more (type_lines c.args.sig.now c.args.map.now) c.loop-agent.agent _ _ _ c.loop-agent.invariant c.in_ok-write_sites.ensures

pub returns : goal.returns
returns c =
    let end : c.loop-agent.agent ≡ length c.args.sig.now = omega (arith, c.types-agent-end.ensures.count, c.loop-agent-test.false, c.loop-agent.auto.agent-end) in
    c.loop-agent.invariant ∙ ap (λ n. c.args.out.now.items ++ all_lines (flat_map (type_lines c.args.sig.now c.args.map.now) (numbers n))) end
