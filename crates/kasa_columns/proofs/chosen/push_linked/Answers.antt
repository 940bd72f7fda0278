use Rattle.std.proofs.Common.{refl}
use Rattle.kasa_columns.proofs.ChosenLemmas.{IsLinked, linked_all}
use Rattle.kasa_columns.proofs.SiteLemmas.{same_local}
use Rattle.kasa_columns.proofs.Pushing.{pushed_next, pushed_all, adds_one, or_to}
use Rattle.kasa_columns.proofs.chosen.push_linked.Goals as goal

pub loop-link-preserved : goal.loop-link-preserved
loop-link-preserved c =
    rw c.in_ok-push.ensures.items
    (pushed_next (IsLinked c.args.state.now) _ c.args.links.now c.loop-link.link-index c.loop-link.items.items _ c.link-item.result c.loop-link-test.true c.link-item.is c.loop-link.invariant (adds_one (IsLinked c.args.state.now) c.loop-link.items.items c.link-item.result _ (refl, refl) (λ l q. same_local l _ q.0 q.1)))

pub returns : goal.returns
returns c = λ l. or_to (pushed_all (IsLinked c.args.state.now) _ c.args.links.now c.loop-link.link-index c.loop-link.items.items c.loop-link-test.false c.loop-link.invariant l) (linked_all c.args.state.now c.args.links.now l)
