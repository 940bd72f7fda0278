use Rattle.std.proofs.Common.{◌≡◌, refl, sym, Some, slice_get, ◌∙◌}
use Rattle.kasa_graph.specs.Lists.{Has}
use Rattle.kasa_graph.proofs.FitLemmas.{Has-list_any, list_any-Has}
use Rattle.kasa_choose.proofs.PlanLists.{element_at, told_not, each_more, each_end}
use Rattle.kasa_choose.proofs.views.is_within.Goals as goal

pub loop-site-preserved : goal.loop-site-preserved
loop-site-preserved c =
    each_more (λ s. Has c.args.others.now s) c.args.sites.now _ c.site-item.result (element_at _ _ _ _ refl c.loop-site-test.true c.site-item.is)
    (Has-list_any c.args.others.now c.site-item.result (sym c.contains.ensures.value ∙ c.if-not-contains.false)) c.loop-site.invariant

pub returns-then-not-contains : goal.returns-then-not-contains
returns-then-not-contains c =
    let at : slice_get c.args.sites.now c.loop-site.site-index ≡ Some c.site-item.result = element_at _ _ _ _ refl c.loop-site-test.true c.site-item.is in (
      λ wrong. absurd cc,
      λ within. absurd (told_not (Has c.args.others.now c.site-item.result) _ c.if-not-contains.true
          (λ has. c.contains.ensures.value ∙ list_any-Has c.args.others.now c.site-item.result has) (within c.site-item.result (c.loop-site.site-index, at))),
    )

pub returns : goal.returns
returns c = (λ yes. each_end (λ s. Has c.args.others.now s) c.args.sites.now _ c.loop-site-test.false c.loop-site.invariant, λ within. refl)
