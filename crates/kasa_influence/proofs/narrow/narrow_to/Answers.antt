use Rattle.std.proofs.Common.{◌∙◌, true, arith}
use Rattle.kasa_graph.proofs.TestLemmas.{agent_at-same}
use Rattle.kasa_pre.proofs.NarrowLemmas.{IsNarrowed-next, HasNone-next, Narrows-same}
use Rattle.kasa_influence.specs.inner.Stops.{SiteStands, StandsAt}
use Rattle.kasa_influence.proofs.OneLemmas.{HasNodeSite-below, StandsAt-all}
use Rattle.kasa_influence.proofs.narrow.narrow_to.Goals as goal

pub narrow_site-requires-clause-typed : goal.narrow_site-requires-clause-typed
narrow_site-requires-clause-typed c = agent_at-same c.args.g.now c.loop-site.g c.loop-site.invariant.implies.types c.args.place ∙ c.requires.typed

pub narrow_site-requires-clause-exists : goal.narrow_site-requires-clause-exists
narrow_site-requires-clause-exists c = HasNodeSite-below c.args.sig.now c.args.v.now c.requires.one c.agent.result c.loop-site.site c.agent.ensures (let count = c.sites-site-end.ensures.counts in omega arith)

pub returns-then-not-narrow_site : goal.returns-then-not-narrow_site
returns-then-not-narrow_site c =
    HasNone-next c.args.sig.now c.args.g.now (λ s h. SiteStands c.args.v.now c.args.place s h) (StandsAt c.args.v.now c.args.place) c.loop-site.site c.loop-site.g c.loop-site.invariant (rw c.if-not-narrow_site.true at c.narrow_site.ensures) (λ h implied all s. all s)

pub loop-site-preserved : goal.loop-site-preserved
loop-site-preserved c =
    IsNarrowed-next c.args.sig.now c.args.g.now (λ s h. SiteStands c.args.v.now c.args.place s h) c.loop-site.site c.loop-site.g c.narrow_site.new.g c.loop-site.invariant (rw c.if-not-narrow_site.false at c.narrow_site.ensures)

pub returns : goal.returns
returns c =
    Narrows-same c.args.sig.now c.args.g.now _ (StandsAt c.args.v.now c.args.place) true c.loop-site.g
    (λ h implied all. StandsAt-all c.args.sig.now c.args.v.now c.requires.one c.agent.result c.args.place c.loop-site.site h c.agent.ensures (let count = c.sites-site-end.ensures.counts in omega arith) all)
    (λ h implied all s below. all s)
    c.loop-site.invariant
