use Rattle.std.proofs.Common.{◌≡◌, refl, ◌∙◌, rules, below_more}
use Rattle.std.proofs.Math.Nat.{le_trans}
use Rattle.std.specs.Prelude.{Some}
use Rattle.std.proofs.lemmas.Option.{slice_get_read}
use Rattle.kasa_graph.specs.Pattern.{agent_at, site_at}
use Rattle.kasa_graph.specs.Mixture.{type_in}
use Rattle.kasa_graph.proofs.FitLemmas.{MeetsAt, MeetsAt-of, meets_of_fits, FitsCell-of}
use Rattle.kasa_graph.proofs.embedding.fits_cell.Goals as goal

pub returns-then-not-meets_tests : goal.returns-then-not-meets_tests
returns-then-not-meets_tests c =
    let at : site_at c.args.g.now c.args.node c.loop-site.site ≡ Some c.tests-item.result =
    c.tests-tests-items.ensures c.loop-site.site ∙ slice_get_read c.tests-tests-items.result.now _ c.loop-site.site c.tests-item.result refl c.loop-site-test.true c.tests-item.is in (
      (λ h. absurd cc),
      (λ fits. rw c.if-not-meets_tests.true at (c.meets_tests.ensures.1 (meets_of_fits _ _ _ _ _ _ _ at fits))),
    )

pub loop-site-preserved : goal.loop-site-preserved
loop-site-preserved c =
    let at : site_at c.args.g.now c.args.node c.loop-site.site ≡ Some c.tests-item.result =
    c.tests-tests-items.ensures c.loop-site.site ∙ slice_get_read c.tests-tests-items.result.now _ c.loop-site.site c.tests-item.result refl c.loop-site-test.true c.tests-item.is in
    below_more (MeetsAt c.args.g.now c.args.m.now c.args.ids.now c.args.node c.args.cell) c.loop-site.site c.loop-site.invariant
    (MeetsAt-of _ _ _ _ _ _ _ at (c.meets_tests.ensures.0 c.if-not-meets_tests.false))

pub returns : goal.returns
returns c =
    let typed : type_in c.args.m.now c.args.cell ≡ agent_at c.args.g.now c.args.node = search rules in (
      (λ _. FitsCell-of _ _ _ _ _ c.tests-tests-items.result.now typed c.tests-tests-items.ensures (λ s below. c.loop-site.invariant s (le_trans below c.loop-site-test.false))),
      (λ _. refl),
    )
