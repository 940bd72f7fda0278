use Rattle.std.proofs.Common.{arith}
use Rattle.std.proofs.lemmas.Grind.{common_steps}
use Rattle.kasa_choose.proofs.Firsts.{too_many}
use Rattle.kasa_choose.proofs.gathering.take_plan.Goals as goal

pub returns-in_err-after-clause-many : goal.returns-in_err-after-clause-many
returns-in_err-after-clause-many g c e =
    let full = c.in_err-after.ensures.many (grind (arith, common_steps)) in
    too_many c.args.model.now c.args.before _ c.loop-family.after _ c.in-Some.family _ c.loop-family.invariant.leads c.in-Some.ensures.some full.0 full.1
