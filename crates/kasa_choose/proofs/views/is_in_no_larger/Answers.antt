use Rattle.std.proofs.Common.{◌≡◌, ℕ, List, refl, Some, slice_get}
use Rattle.kasa_choose.specs.ViewPlan.{IsWithin}
use Rattle.kasa_choose.proofs.PlanLists.{element_at, told_not, each_more, each_end}
use Rattle.kasa_choose.proofs.views.is_in_no_larger.Goals as goal
use Rattle.kasa_choose.proofs.views.is_in_no_larger.Goals.{else-is_within-via-then-is_within+else-not-is_within, else-is_within-via-else-is_within}

-- within the set only where the set is within it
abbrev IsNoSmaller : List ℕ → List ℕ → Type 0
IsNoSmaller sites others = IsWithin sites others → IsWithin others sites

pub loop-set-preserved : goal.loop-set-preserved
loop-set-preserved c =
    each_more (IsNoSmaller c.args.sites.now) c.args.sets.now _ c.set-item.result (element_at _ _ _ _ refl c.loop-set-test.true c.set-item.is)
    (elim c.else-is_within.branch [
      | else-is_within-via-then-is_within+else-not-is_within w ↦ λ within. rw c.as_slice-others.ensures at (w.is_within-then-is_within.ensures.0 w.if-not-is_within.false)
      | else-is_within-via-else-is_within w ↦ λ within. absurd (told_not (IsWithin c.args.sites.now c.as_slice-others.result.now) _ w.if-is_within.false c.is_within.ensures.1 (rw c.as_slice-others.ensures within))
    ])
    c.loop-set.invariant

pub returns-then-not-is_within : goal.returns-then-not-is_within
returns-then-not-is_within c =
    let at : slice_get c.args.sets.now c.loop-set.set-index ≡ Some c.set-item.result = element_at _ _ _ _ refl c.loop-set-test.true c.set-item.is in
    let within = rw c.as_slice-others.ensures at (c.is_within.ensures.0 c.if-is_within.true) in (
      λ wrong. absurd cc,
      λ largest. absurd (told_not (IsWithin c.as_slice-others.result.now c.args.sites.now) _ c.if-not-is_within.true
          c.is_within-then-is_within.ensures.1 (rw c.as_slice-others.ensures (largest c.set-item.result (c.loop-set.set-index, at) within))),
    )

pub returns : goal.returns
returns c = (λ told. each_end (IsNoSmaller c.args.sites.now) c.args.sets.now _ c.loop-set-test.false c.loop-set.invariant, λ largest. refl)
