use Rattle.std.proofs.Common.{◌≡◌, length, ap, ◌∙◌}
use Rattle.kasa_influence.specs.inner.Ask.{Asked, IsAsked}
use Rattle.kasa_influence.proofs.StopsLemmas.{over-and_one, site-and_one, type-and_one}
use Rattle.kasa_influence.proofs.stops.stops_outside.Goals as goal

pub takes-requires-clause-over : goal.takes-requires-clause-over
takes-requires-clause-over g c =
    let asked : IsAsked c.args.ask.now = rw (← c.ask.view_is) c.ask.invariant in
    rw c.in_ok-g.ensures (over-and_one c.args.ask.now.sig c.args.ask.now.rule.left c.args.v.now c.requires asked.over.left)

pub takes-requires-clause-longer : goal.takes-requires-clause-longer
takes-requires-clause-longer g c =
    let asked : IsAsked c.args.ask.now = rw (← c.ask.view_is) c.ask.invariant in
    rw c.in_ok-g.ensures (site-and_one c.args.ask.now.sig c.args.ask.now.rule.left c.args.v.now c.requires asked.over.left)

pub takes-requires-clause-typed : goal.takes-requires-clause-typed
takes-requires-clause-typed g c =
    let count : c.nodes.result ≡ length c.args.ask.now.rule.left = c.nodes.ensures.count ∙ ap length c.left.ensures.pattern ∙ ap (λ (a : Asked). length a.rule.left) c.ask.view_is in
    rw (c.in_ok-g.ensures, count) (type-and_one c.args.ask.now.sig c.args.ask.now.rule.left c.args.v.now c.requires (let asked : IsAsked c.args.ask.now = rw (← c.ask.view_is) c.ask.invariant in asked.over.left))

pub returns : goal.returns
returns g c =
    let count : c.nodes.result ≡ length c.args.ask.now.rule.left = c.nodes.ensures.count ∙ ap length c.left.ensures.pattern ∙ ap (λ (a : Asked). length a.rule.left) c.ask.view_is in
    rw (c.in_ok-g.ensures, count) at c.takes.ensures
