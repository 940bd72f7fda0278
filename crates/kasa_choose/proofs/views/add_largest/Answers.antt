use Rattle.std.proofs.Common.{◌≡◌, refl, ap, ◌∙◌, Some, slice_get}
use Rattle.kasa_families.specs.declared.family.Family.TheVariants.{View}
use Rattle.kasa_choose.specs.ViewSets.{IsInNoLarger, view_families}
use Rattle.kasa_choose.proofs.PlanLists.{element_at, told_not}
use Rattle.kasa_choose.proofs.PlanLemmas.{has_added_more, has_added_skip, has_added_all}
use Rattle.kasa_choose.proofs.views.add_largest.Goals as goal
use Rattle.kasa_choose.proofs.views.add_largest.Goals.{then-is_in_no_larger+in_ok-from_slice+in_ok-insert, else-is_in_no_larger}

pub loop-set-preserved : goal.loop-set-preserved
loop-set-preserved c =
    let at : slice_get c.args.sets.now c.loop-set.set-index ≡ Some c.set-item.result = element_at _ _ _ _ refl c.loop-set-test.true c.set-item.is in
    elim c.if-is_in_no_larger.branch [
      | then-is_in_no_larger+in_ok-from_slice+in_ok-insert w ↦ rw (ap (λ v. v.keys) w.views-is ∙ w.in_ok-insert.ensures.keys)
          (has_added_more c.args.sets.now _ c.args.agent (view_families c.args.views.now.keys) c.loop-set.views.keys _ c.set-item.result at
          (rw c.as_slice-sites.ensures at (c.is_in_no_larger.ensures.0 w.if-is_in_no_larger.true))
          (ap (λ xs. View c.args.agent xs) (w.in_ok-from_slice.ensures.items ∙ c.as_slice-sites.ensures)) c.loop-set.invariant)
      | else-is_in_no_larger w ↦ rw (ap (λ v. v.keys) w.views-is)
          (has_added_skip c.args.sets.now _ c.args.agent (view_families c.args.views.now.keys) (view_families c.loop-set.views.keys) c.set-item.result at
          (λ largest. told_not (IsInNoLarger c.args.sets.now c.set-item.result) _ w.if-is_in_no_larger.false (λ h. c.is_in_no_larger.ensures.1 (rw c.as_slice-sites.ensures h)) largest) c.loop-set.invariant)
    ]

pub returns : goal.returns
returns c = has_added_all c.args.sets.now _ c.args.agent (view_families c.args.views.now.keys) (view_families c.loop-set.views.keys) c.loop-set-test.false c.loop-set.invariant
