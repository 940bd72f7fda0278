use Rattle.std.proofs.Common.{◌≤◌, [], length}
use Rattle.kasa_choose.specs.Gathered.{joined_plans}
use Rattle.kasa_choose.proofs.Firsts.{LeadsOn}
use Rattle.kasa_choose.proofs.gathering.take_plans.Given as goal

-- going on with the boxes that are left leads to the same families
abbrev pub invariant-loop-choosers : goal.invariant-loop-choosers
invariant-loop-choosers g l =
    let joined = joined_plans
    (λ b. (goal.Chooser-dyn g (b.vtable, b.value)).kind b.value)
    (λ b. (goal.Chooser-dyn g (b.vtable, b.value)).plan b.value)
    l.without l.model
    in
    record {
      leads : LeadsOn l.model [] (joined l.fn.choosers.items) l.families (joined l.choosers.items);
      few : length l.families ≤ 8000;
    }

abbrev pub decreases-loop-choosers : goal.decreases-loop-choosers
decreases-loop-choosers g l = length l.choosers.items
