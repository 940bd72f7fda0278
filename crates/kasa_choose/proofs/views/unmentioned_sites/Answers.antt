use Rattle.std.proofs.Common.{ap, ◌∙◌, ◌<◌, ◌≤◌, arith}
use Rattle.kasa_choose.specs.ViewSets.{IsInSome, site_lists}
use Rattle.kasa_choose.proofs.PlanLists.{told_not, IsListBelow-add, IsListBelow-skip, IsListOf-along}
use Rattle.kasa_choose.proofs.views.unmentioned_sites.Goals as goal
use Rattle.kasa_choose.proofs.views.unmentioned_sites.Goals.{then-not-is_in_some+in_ok-push, else-not-is_in_some}

pub loop-number-preserved : goal.loop-number-preserved
loop-number-preserved c = elim c.if-not-is_in_some.branch [
  | then-not-is_in_some+in_ok-push w ↦ rw (ap (λ v. v.items) w.sites-is ∙ w.in_ok-push.ensures.items)
      (IsListBelow-add (λ s. IsInSome (site_lists c.args.sets.now.keys) s → ⊥) _ _
      (told_not (IsInSome (site_lists c.args.sets.now.keys) c.loop-number.number) _ w.if-not-is_in_some.true c.is_in_some.ensures.1) c.loop-number.invariant)
  | else-not-is_in_some w ↦ rw (ap (λ v. v.items) w.sites-is)
      (IsListBelow-skip (λ s. IsInSome (site_lists c.args.sets.now.keys) s → ⊥) _ _
      (λ free. free (c.is_in_some.ensures.0 w.if-not-is_in_some.false)) c.loop-number.invariant)
]

pub returns : goal.returns
returns c =
    let most : c.loop-number.number ≤ c.args.count = c.loop-number.auto.number-end in
    let least : c.args.count ≤ c.loop-number.number = c.loop-number-test.false in
    IsListOf-along (λ s. (s < c.loop-number.number) × (IsInSome (site_lists c.args.sets.now.keys) s → ⊥))
    (λ s. (s < c.args.count) × (IsInSome (site_lists c.args.sets.now.keys) s → ⊥)) _
    (λ s p. let less : s < c.loop-number.number = p.0 in (omega arith, p.1))
    (λ s p. let less : s < c.args.count = p.0 in (omega arith, p.1)) c.loop-number.invariant
