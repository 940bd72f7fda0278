use Rattle.std.proofs.Common.{◌≤◌, length}
use Rattle.kasa_choose.proofs.Firsts.{LeadsOn}
use Rattle.kasa_choose.proofs.gathering.take_plan.Given as goal

-- going on with what the chooser has left leads to the same families
abbrev pub invariant-loop-family : goal.invariant-loop-family
invariant-loop-family g l =
    let box = l.chooser in
    let start = l.fn.chooser in
    record {
      leads : LeadsOn l.model l.fn.before ((goal.Chooser-dyn g (start.vtable, start.value)).plan start.value l.model) l.after ((goal.Chooser-dyn g (box.vtable, box.value)).left box.value);
      few : length l.after ≤ 8000;
    }

abbrev pub decreases-loop-family : goal.decreases-loop-family
decreases-loop-family g l = length ((goal.Chooser-dyn g (l.chooser.vtable, l.chooser.value)).left l.chooser.value)
