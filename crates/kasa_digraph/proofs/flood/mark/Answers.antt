use Rattle.std.proofs.Common.{◌≡◌, ◌≢◌, ℕ, List, set, arith, sym, subst}
use Rattle.kasa_digraph.specs.inner.Flood.{far, IsSpread}
use Rattle.kasa_digraph.proofs.Flooding.{spread_old, spread_new}
use Rattle.kasa_digraph.proofs.flood.mark.Goals as goal

pub returns-in_ok-push : goal.returns-in_ok-push
returns-in_ok-push c =
    let ne : c.args.label ≢ far = omega arith in
    subst (λ (xs : List ℕ). IsSpread (λ z. z ≡ c.args.y) c.args.label c.args.labels.now (set c.args.labels.now c.args.y c.args.label) c.args.found.now.items xs)
    (sym c.in_ok-push.ensures.items) (spread_new c.args.label c.args.y c.args.labels.now c.args.found.now.items ne c.requires.within c.if-labels-at.true)

pub returns-else-labels-at : goal.returns-else-labels-at
returns-else-labels-at c = spread_old c.args.label c.args.y c.args.labels.now c.args.found.now.items c.if-labels-at.false
