use Rattle.std.proofs.Common.{refl, ap, Some, None}
use Rattle.kasa_compile.specs.declared.fault.CompileFault.TheVariants.{TooManyNodes, TooManyRules}
use Rattle.kasa_compile.proofs.CauseLemmas.{passed, stopped, no_cause, past-most, within-most}
use Rattle.kasa_compile.proofs.causes.limit_fault.Goals as goal

pub returns-in-Some : goal.returns-in-Some
returns-in-Some c = stopped c.args.text.now TooManyNodes _ _ c.past_limit_of_rule.result c.in-Some.at _ c.in-Some.is c.past_limit_of_rule.ensures (ap TooManyNodes c.place.ensures)

pub returns-then-count-ge2000 : goal.returns-then-count-ge2000
returns-then-count-ge2000 c =
    passed c.args.text.now TooManyNodes _ _ c.past_limit_of_rule.result _ c.in_default.is c.past_limit_of_rule.ensures
    (stopped c.args.text.now TooManyRules _ _ (Some c.args.start) c.args.start _ refl (past-most 2000 c.args.count c.args.start c.if-count-ge2000.true) (ap TooManyRules c.place-then-count-ge2000.ensures))

pub returns : goal.returns
returns c =
    passed c.args.text.now TooManyNodes _ _ c.past_limit_of_rule.result _ c.in_default.is c.past_limit_of_rule.ensures
    (passed c.args.text.now TooManyRules _ _ None _ refl (within-most 2000 c.args.count c.args.start c.if-count-ge2000.false) (no_cause c.args.text.now))
