use Rattle.std.proofs.Common.{◌∙◌, true, false}
use Rattle.kasa_graph.proofs.TestLemmas.{agent_at-same}
use Rattle.kasa_pre.specs.Narrow.{IsNarrowed, HasNone}
use Rattle.kasa_influence.specs.inner.Stops.{StandsAt, HasPartner}
use Rattle.kasa_influence.proofs.OneLemmas.{HasNodeSite-moved}
use Rattle.kasa_influence.proofs.AllowsLemmas.{AllowsSome-asked, AllowsSome-none, HasNodeSite-narrower, HasPartner-narrowed, HasPartner-nowhere}
use Rattle.kasa_influence.proofs.stops.takes_from.Goals as goal

pub narrow-requires-clause-exists : goal.narrow-requires-clause-exists
narrow-requires-clause-exists g c =
    let first : IsNarrowed c.args.ask.now.sig c.args.g.now (StandsAt c.args.v.now c.args.place) c.narrow_to.new.g = rw (← c.ask.view_is) (rw (c.if-not-narrow_to.false, c.in_ok-g.ensures) at c.narrow_to.ensures) in
    HasNodeSite-moved c.args.ask.now.sig c.args.v.now c.requires.one c.narrow_to.new.g c.args.place first.valid (agent_at-same c.args.g.now c.narrow_to.new.g first.implies.types c.args.place ∙ c.requires.typed) c.args.site c.requires.exists

pub narrow-requires-clause-known : goal.narrow-requires-clause-known
narrow-requires-clause-known g c =
    let first : IsNarrowed c.args.ask.now.sig c.args.g.now (StandsAt c.args.v.now c.args.place) c.narrow_to.new.g = rw (← c.ask.view_is) (rw (c.if-not-narrow_to.false, c.in_ok-g.ensures) at c.narrow_to.ensures) in
    HasNodeSite-narrower c.args.ask.now.sig c.args.g.now c.narrow_to.new.g c.requires.over first.valid first.implies c.args.x.now.node c.args.x.now.site c.requires.far

pub returns-then-not-narrow_to : goal.returns-then-not-narrow_to
returns-then-not-narrow_to g c =
    let none : HasNone c.ask.inside.sig.now c.args.g.now (StandsAt c.args.v.now c.args.place) = rw (c.if-not-narrow_to.true, c.in_ok-g.ensures) at c.narrow_to.ensures in
    rw (← c.ask.view_is)
    (AllowsSome-none c.ask.inside.sig.now _ c.args.g.now (HasPartner c.args.v.now c.args.place c.args.site c.args.x.now) (HasPartner-nowhere c.ask.inside.sig.now c.args.v.now c.args.g.now c.args.place c.args.site c.args.x.now c.args.g.now none))

pub returns-then-not-narrow : goal.returns-then-not-narrow
returns-then-not-narrow g c =
    let first : IsNarrowed c.ask.inside.sig.now c.args.g.now (StandsAt c.args.v.now c.args.place) c.narrow_to.new.g = rw (c.if-not-narrow_to.false, c.in_ok-g.ensures) at c.narrow_to.ensures in
    rw (← c.ask.view_is)
    (AllowsSome-none c.ask.inside.sig.now _ c.args.g.now (HasPartner c.args.v.now c.args.place c.args.site c.args.x.now)
    (HasPartner-narrowed c.ask.inside.sig.now c.args.v.now c.args.g.now c.args.place c.args.site c.args.x.now c.narrow_to.new.g false c.narrow.new.g first (rw c.if-not-narrow.true at c.narrow.ensures)))

pub returns : goal.returns
returns g c =
    let first : IsNarrowed c.ask.inside.sig.now c.args.g.now (StandsAt c.args.v.now c.args.place) c.narrow_to.new.g = rw (c.if-not-narrow_to.false, c.in_ok-g.ensures) at c.narrow_to.ensures in
    rw (← c.ask.view_is)
    (AllowsSome-asked c.ask.inside.sig.now _ c.args.g.now (HasPartner c.args.v.now c.args.place c.args.site c.args.x.now) c.allowed.result c.narrow.new.g
    (HasPartner-narrowed c.ask.inside.sig.now c.args.v.now c.args.g.now c.args.place c.args.site c.args.x.now c.narrow_to.new.g true c.narrow.new.g first (rw c.if-not-narrow.false at c.narrow.ensures))
    c.allowed.ensures.allowed)
