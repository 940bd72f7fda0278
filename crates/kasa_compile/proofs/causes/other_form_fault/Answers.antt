use Rattle.std.proofs.Common.{ap}
use Rattle.kasa_compile.specs.declared.fault.CompileFault.TheVariants.{LabelNotTwice, TypeMismatch}
use Rattle.kasa_compile.proofs.CauseLemmas.{passed, stopped, no_cause}
use Rattle.kasa_compile.proofs.causes.other_form_fault.Goals as goal

pub returns-in-Some : goal.returns-in-Some
returns-in-Some c = stopped c.args.text.now LabelNotTwice _ _ c.in_ok-at.field-0 c.in-Some.at _ c.in-Some.is c.in_ok-at.ensures (ap LabelNotTwice c.place.ensures)

pub returns-in-Some-mismatch : goal.returns-in-Some-mismatch
returns-in-Some-mismatch c =
    passed c.args.text.now LabelNotTwice _ _ c.in_ok-at.field-0 _ c.in_default.is c.in_ok-at.ensures
    (stopped c.args.text.now TypeMismatch _ _ c.mismatch.result c.in-Some-mismatch.at _ c.in-Some-mismatch.is c.mismatch.ensures (ap TypeMismatch c.place-in-Some-mismatch.ensures))

pub returns : goal.returns
returns c =
    passed c.args.text.now LabelNotTwice _ _ c.in_ok-at.field-0 _ c.in_default.is c.in_ok-at.ensures
    (passed c.args.text.now TypeMismatch _ _ c.mismatch.result _ c.in_default-mismatch.is c.mismatch.ensures (no_cause c.args.text.now))
