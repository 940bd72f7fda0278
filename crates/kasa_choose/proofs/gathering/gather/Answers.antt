use Rattle.kasa_choose.proofs.Firsts.{valid_gathered, different_gathered}
use Rattle.kasa_choose.proofs.gathering.gather.Goals as goal

pub returns-clause-valid : goal.returns-clause-valid
returns-clause-valid g c = valid_gathered c.args.model.now
    (λ b. (goal.Chooser-dyn g (b.vtable, b.value)).kind b.value) (λ b. (goal.Chooser-dyn g (b.vtable, b.value)).plan b.value)
    c.args.choosers.items c.args.without.now c.families.result.items (rw c.families.ensures c.in_ok-families.ensures.gathered)

pub returns-clause-different : goal.returns-clause-different
returns-clause-different g c = different_gathered c.args.model.now
    (λ b. (goal.Chooser-dyn g (b.vtable, b.value)).kind b.value) (λ b. (goal.Chooser-dyn g (b.vtable, b.value)).plan b.value)
    c.args.choosers.items c.args.without.now c.families.result.items (rw c.families.ensures c.in_ok-families.ensures.gathered)
