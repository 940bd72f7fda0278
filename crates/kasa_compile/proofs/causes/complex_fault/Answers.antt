use Rattle.std.proofs.Common.{ap}
use Rattle.kasa_compile.specs.declared.fault.CompileFault.TheVariants.{LabelNotTwice, PartialInit, TooManyNodes}
use Rattle.kasa_compile.proofs.CauseLemmas.{passed, stopped, no_cause}
use Rattle.kasa_compile.proofs.causes.complex_fault.Goals as goal

pub returns-in-Some : goal.returns-in-Some
returns-in-Some c = stopped c.args.text.now LabelNotTwice _ _ c.in_ok-at.field-0 c.in-Some.at _ c.in-Some.is c.in_ok-at.ensures (ap LabelNotTwice c.place.ensures)

pub returns-in-Some-partial_site : goal.returns-in-Some-partial_site
returns-in-Some-partial_site c =
    passed c.args.text.now LabelNotTwice _ _ c.in_ok-at.field-0 _ c.in_default.is c.in_ok-at.ensures
    (stopped c.args.text.now PartialInit _ _ c.partial_site.result c.in-Some-partial_site.at _ c.in-Some-partial_site.is c.partial_site.ensures (ap PartialInit c.place-in-Some-partial_site.ensures))

pub returns-in-Some-past_limit_of_init : goal.returns-in-Some-past_limit_of_init
returns-in-Some-past_limit_of_init c =
    passed c.args.text.now LabelNotTwice _ _ c.in_ok-at.field-0 _ c.in_default.is c.in_ok-at.ensures
    (passed c.args.text.now PartialInit _ _ c.partial_site.result _ c.in_default-partial_site.is c.partial_site.ensures
    (stopped c.args.text.now TooManyNodes _ _ c.past_limit_of_init.result c.in-Some-past_limit_of_init.at _ c.in-Some-past_limit_of_init.is c.past_limit_of_init.ensures (ap TooManyNodes c.place-in-Some-past_limit_of_init.ensures)))

pub returns : goal.returns
returns c =
    passed c.args.text.now LabelNotTwice _ _ c.in_ok-at.field-0 _ c.in_default.is c.in_ok-at.ensures
    (passed c.args.text.now PartialInit _ _ c.partial_site.result _ c.in_default-partial_site.is c.partial_site.ensures
    (passed c.args.text.now TooManyNodes _ _ c.past_limit_of_init.result _ c.in_default-past_limit_of_init.is c.past_limit_of_init.ensures (no_cause c.args.text.now)))
