use Rattle.std.proofs.Common.{inl, refl, arith, below_more}
use Rattle.kasa_influence.specs.inner.Ask.{IsAsked}
use Rattle.kasa_influence.specs.inner.Makes.{TestsWrittenAt}
use Rattle.kasa_influence.proofs.OneLemmas.{HasNodeSite-below}
use Rattle.kasa_influence.proofs.MeetsLemmas.{HasStandSite-fits, meets_at, meets_none}
use Rattle.kasa_influence.proofs.makes.meets_written.Goals as goal

pub returns-then-is_created : goal.returns-then-is_created
returns-then-is_created g c = (λ yes. inl (c.is_created.ensures.0 c.if-is_created.true), λ meets. refl)

pub tests_written-requires-clause-site : goal.tests_written-requires-clause-site
tests_written-requires-clause-site g c = HasNodeSite-below c.args.ask.now.sig c.args.v.now c.requires.one c.agent.result c.loop-site.site c.agent.ensures (rw (← c.ask.view_is) (let count = c.sites-site-end.ensures.counts in omega arith))

pub tests_written-requires-clause-there : goal.tests_written-requires-clause-there
tests_written-requires-clause-there g c =
    HasStandSite-fits c.ask.inside.sig.now c.ask.inside.rule.now c.ask.invariant.over c.args.v.now c.agent.result c.agent.ensures c.args.stand.now c.loop-site.site (rw (← c.ask.view_is) at c.requires.fits) (let count = c.sites-site-end.ensures.counts in omega arith)

pub returns-then-tests_written : goal.returns-then-tests_written
returns-then-tests_written g c =
    let asked : IsAsked c.args.ask.now = rw (← c.ask.view_is) c.ask.invariant in
    let found : TestsWrittenAt c.args.ask.now.rule c.args.v.now c.args.stand.now c.loop-site.site = rw (← c.ask.view_is) (c.tests_written.ensures.0 c.if-tests_written.true) in
    (λ yes. meets_at c.args.ask.now.sig c.args.ask.now.rule asked.over c.args.v.now c.agent.result c.agent.ensures c.requires.one c.args.stand.now c.loop-site.site found, λ meets. refl)

pub loop-site-preserved : goal.loop-site-preserved
loop-site-preserved g c =
    below_more (λ s. ¬ TestsWrittenAt c.args.ask.now.rule c.args.v.now c.args.stand.now s) c.loop-site.site c.loop-site.invariant (rw (← c.ask.view_is) (λ tests. let yes = c.tests_written.ensures.1 tests in let no = c.if-tests_written.false in absurd cc))

pub returns : goal.returns
returns g c =
    let asked : IsAsked c.args.ask.now = rw (← c.ask.view_is) c.ask.invariant in (
      λ yes. absurd cc,
      λ meets. absurd (meets_none c.args.ask.now.sig c.args.ask.now.rule asked.over c.args.v.now c.agent.result c.agent.ensures c.requires.one c.args.stand.now c.loop-site.site
          (rw (← c.ask.view_is) (let count = c.sites-site-end.ensures.counts in omega arith))
          (λ created. let yes = c.is_created.ensures.1 created in let no = c.if-is_created.false in cc)
          c.loop-site.invariant meets),
    )
