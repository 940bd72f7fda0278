use Rattle.kasa_choose.specs.Gathered.{IsGathered}
use Rattle.kasa_top.proofs.DueLemmas.{done_ends, done_sound, refused_ends}
use Rattle.kasa_top.proofs.program.run.Goals as goal

pub returns-in-Ok-clause-ends : goal.returns-in-Ok-clause-ends
returns-in-Ok-clause-ends g c =
    done_ends
    (IsGathered (λ b. (goal.Chooser-dyn g (b.vtable, b.value)).kind b.value) (λ b. (goal.Chooser-dyn g (b.vtable, b.value)).plan b.value) c.args.choosers.items)
    _ _ _ _ _ _ _ c.finish.result c.in-Ok.ensures.report (rw c.as_slice.ensures.value at c.finish.ensures)

pub returns-in-Ok-clause-sound : goal.returns-in-Ok-clause-sound
returns-in-Ok-clause-sound g c =
    done_sound
    (IsGathered (λ b. (goal.Chooser-dyn g (b.vtable, b.value)).kind b.value) (λ b. (goal.Chooser-dyn g (b.vtable, b.value)).plan b.value) c.args.choosers.items)
    _ _ (Unit {0}) _ _ _ _ c.finish.result c.in-Ok.ensures.report (rw c.as_slice.ensures.value at c.finish.ensures)

pub returns-in-Err-clause-ends : goal.returns-in-Err-clause-ends
returns-in-Err-clause-ends g c =
    refused_ends
    (IsGathered (λ b. (goal.Chooser-dyn g (b.vtable, b.value)).kind b.value) (λ b. (goal.Chooser-dyn g (b.vtable, b.value)).plan b.value) c.args.choosers.items)
    _ _ _ _ _ _ c.in-Err.status c.refuse.result c.in-Err.ensures.refused c.refuse.ensures
