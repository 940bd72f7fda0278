use Rattle.std.proofs.Common.{arith, subst}
use Rattle.kasa_families.specs.Family.{IsFamily}
use Rattle.kasa_choose.proofs.Firsts.{taken_of, taken_too_many}
use Rattle.kasa_choose.proofs.gathering.take_on.Goals as goal

pub returns-then-len-gt-MOST-clause-many : goal.returns-then-len-gt-MOST-clause-many
returns-then-len-gt-MOST-clause-many c e =
    let valid : IsFamily c.args.model.now.sig c.args.family = subst (λ m. IsFamily m.sig c.args.family) c.model.view_is (c.is_family.ensures.0 c.if-not-is_family.false) in
    taken_too_many c.args.model.now c.args.before c.args.family c.in_ok-after.after valid c.in_ok-after.ensures (omega (arith, c.requires)) (omega (arith, c.len.ensures, c.after.view_is, c.if-len-gt-MOST.true))

pub returns-clause-taken : goal.returns-clause-taken
returns-clause-taken c =
    let valid : IsFamily c.args.model.now.sig c.args.family = subst (λ m. IsFamily m.sig c.args.family) c.model.view_is (c.is_family.ensures.0 c.if-not-is_family.false) in
    taken_of c.args.model.now c.args.before c.args.family c.in_ok-after.after valid (omega (arith, c.requires)) c.in_ok-after.ensures
