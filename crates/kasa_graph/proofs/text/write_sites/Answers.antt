use Rattle.std.proofs.Common.{◌≡◌, ◌<◌, ◌≤◌, ◌∙◌, sym, ap, arith, length, Some, slice_get}
use Rattle.kasa_graph.specs.PatternTextParts.{sites_at}
use Rattle.kasa_graph.proofs.FitLemmas.{agent_at_within}
use Rattle.kasa_graph.proofs.BondLemmas.{slice_get-sites_at}
use Rattle.kasa_graph.proofs.TextLemmas.{sites_are, count_sites, test_at, site_written, site_skipped, all_sites}
use Rattle.kasa_graph.proofs.text.write_sites.Goals.{then-has_test+in_ok-write_comma+in_ok-write_site, else-has_test}
use Rattle.kasa_graph.proofs.text.write_sites.Goals as goal

pub tests-sites-requires : goal.tests-sites-requires
tests-sites-requires c = agent_at_within c.args.pattern.now c.args.node c.args.agent c.requires.type_of

pub bounds-sites-site : goal.bounds-sites-site
bounds-sites-site c =
    let same = ap length (sites_are c.args.pattern.now c.args.node c.tests-sites.result.now c.tests-sites.ensures) in
    let count = count_sites c.args.sig.now c.args.pattern.now c.args.node c.args.agent c.requires.over c.requires.type_of in
    omega (arith, same, count, c.sites-site-end.ensures.counts, c.loop-site-test.true)

pub write_site-requires-clause-here : goal.write_site-requires-clause-here
write_site-requires-clause-here c =
    let same = ap length (sites_are c.args.pattern.now c.args.node c.tests-sites.result.now c.tests-sites.ensures) in
    let count = count_sites c.args.sig.now c.args.pattern.now c.args.node c.args.agent c.requires.over c.requires.type_of in
    let within : c.loop-site.site < length c.tests-sites.result.now = omega (arith, same, count, c.sites-site-end.ensures.counts, c.loop-site-test.true) in
    test_at c.args.pattern.now c.args.node c.loop-site.site c.tests-sites.result.now c.index-sites-site.result c.tests-sites.ensures within c.index-sites-site.is

pub loop-site-preserved : goal.loop-site-preserved
loop-site-preserved c =
    let same = ap length (sites_are c.args.pattern.now c.args.node c.tests-sites.result.now c.tests-sites.ensures) in
    let count = count_sites c.args.sig.now c.args.pattern.now c.args.node c.args.agent c.requires.over c.requires.type_of in
    let within : c.loop-site.site < length c.tests-sites.result.now = omega (arith, same, count, c.sites-site-end.ensures.counts, c.loop-site-test.true) in
    let here : slice_get (sites_at c.args.pattern.now c.args.node) c.loop-site.site ≡ Some c.index-sites-site.result =
    slice_get-sites_at c.args.pattern.now c.args.node c.loop-site.site ∙ test_at c.args.pattern.now c.args.node c.loop-site.site c.tests-sites.result.now c.index-sites-site.result c.tests-sites.ensures within c.index-sites-site.is in
    elim c.if-has_test.branch [
      | then-has_test+in_ok-write_comma+in_ok-write_site w ↦
          rw (w.out-is, w.firsts-is, w.any-is)
          (site_written c.args.sig.now c.args.pattern.now c.args.node c.args.agent (sites_at c.args.pattern.now c.args.node) c.loop-site.site c.index-sites-site.result here _ _ _ _ _ _ _ _ c.loop-site.invariant
          (sym w.if-has_test.true ∙ c.has_test.ensures) w.in_ok-write_comma.ensures w.in_ok-write_site.ensures.text w.in_ok-write_site.ensures.seen)
      | else-has_test w ↦
          rw (w.out-is, w.firsts-is, w.any-is)
          (site_skipped c.args.sig.now c.args.pattern.now c.args.node c.args.agent (sites_at c.args.pattern.now c.args.node) c.loop-site.site c.index-sites-site.result here _ _ _ _ _ c.loop-site.invariant
          (sym w.if-has_test.false ∙ c.has_test.ensures))
    ]

pub returns-clause-text : goal.returns-clause-text
returns-clause-text c =
    let count = count_sites c.args.sig.now c.args.pattern.now c.args.node c.args.agent c.requires.over c.requires.type_of in
    let end : length (sites_at c.args.pattern.now c.args.node) ≤ c.loop-site.site = omega (arith, count, c.sites-site-end.ensures.counts, c.loop-site-test.false) in
    (all_sites c.args.sig.now c.args.pattern.now c.args.node c.args.agent (sites_at c.args.pattern.now c.args.node) c.loop-site.site _ _ _ _ _ c.loop-site.invariant end).0

pub returns-clause-seen : goal.returns-clause-seen
returns-clause-seen c =
    let count = count_sites c.args.sig.now c.args.pattern.now c.args.node c.args.agent c.requires.over c.requires.type_of in
    let end : length (sites_at c.args.pattern.now c.args.node) ≤ c.loop-site.site = omega (arith, count, c.sites-site-end.ensures.counts, c.loop-site-test.false) in
    (all_sites c.args.sig.now c.args.pattern.now c.args.node c.args.agent (sites_at c.args.pattern.now c.args.node) c.loop-site.site _ _ _ _ _ c.loop-site.invariant end).1
