use Rattle.kasa_pre.specs.Narrow.{IsNarrowed, HasNone}
use Rattle.kasa_influence.specs.inner.Stops.{StandsAt}
use Rattle.kasa_influence.proofs.AllowsLemmas.{AllowsSome-asked, AllowsSome-none}
use Rattle.kasa_influence.proofs.stops.can_stand.Goals as goal

pub returns-then-not-narrow_to : goal.returns-then-not-narrow_to
returns-then-not-narrow_to g c =
    let none : HasNone c.ask.inside.sig.now c.ask.inside.rule.now.left (StandsAt c.args.v.now c.args.n) = rw (c.if-not-narrow_to.true, c.in_ok-g.ensures, c.left.ensures.pattern) at c.narrow_to.ensures in
    rw (← c.ask.view_is) (AllowsSome-none c.ask.inside.sig.now _ c.ask.inside.rule.now.left (StandsAt c.args.v.now c.args.n) none)

pub returns : goal.returns
returns g c =
    let some : IsNarrowed c.ask.inside.sig.now c.ask.inside.rule.now.left (StandsAt c.args.v.now c.args.n) c.narrow_to.new.g = rw (c.if-not-narrow_to.false, c.in_ok-g.ensures, c.left.ensures.pattern) at c.narrow_to.ensures in
    rw (← c.ask.view_is) (AllowsSome-asked c.ask.inside.sig.now _ c.ask.inside.rule.now.left (StandsAt c.args.v.now c.args.n) c.allowed.result c.narrow_to.new.g some c.allowed.ensures.allowed)
