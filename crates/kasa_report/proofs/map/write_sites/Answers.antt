use Rattle.std.proofs.Common.{◌≡◌, ◌++◌, ◌∙◌, ap, length, arith}
use Rattle.std.specs.List.{flat_map}
use Rattle.kasa_graph.specs.Signature.{sites_of}
use Rattle.kasa_report.specs.Section.{all_lines}
use Rattle.kasa_report.specs.ContactText.{numbers, lines_at}
use Rattle.kasa_report.proofs.TextLemmas.{lines_more}
use Rattle.kasa_report.proofs.map.write_sites.Goals as goal

pub loop-site-preserved : goal.loop-site-preserved
loop-site-preserved c = lines_more (lines_at c.args.sig.now c.args.map.now c.args.agent) c.loop-site.site _ _ _ c.loop-site.invariant c.in_ok-write_at.ensures

pub returns : goal.returns
returns c =
    let end : c.loop-site.site ≡ length (sites_of c.args.sig.now c.args.agent) = omega (arith, c.sites-site-end.ensures.count, c.loop-site-test.false, c.loop-site.auto.site-end) in
    c.loop-site.invariant ∙ ap (λ n. c.args.out.now.items ++ all_lines (flat_map (lines_at c.args.sig.now c.args.map.now c.args.agent) (numbers n))) end
