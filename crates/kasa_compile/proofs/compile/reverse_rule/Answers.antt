use Rattle.std.proofs.Common.{◌≤◌, ◌+◌, [], ◌∷◌, Some, None, length, nat_le, refl, sym, ap, ◌∙◌, subst, arith}
use Rattle.kasa_compile.specs.declared.fault.CompileFault.TheVariants.{TooManyRules}
use Rattle.kasa_compile.specs.Said.{pairs_of, turned}
use Rattle.kasa_compile.specs.Sides.{SidesParts}
use Rattle.kasa_compile.specs.Causes.{if_past, sides_causes}
use Rattle.kasa_compile.proofs.CauseLemmas.{none_first, passed, stopped, no_cause, past-most, within-most}
use Rattle.kasa_compile.proofs.FaultlessLemmas.{rule_faultless, tried_none}
use Rattle.kasa_compile.proofs.ValidLemmas.{few-reverse}
use Rattle.kasa_compile.proofs.compile.reverse_rule.Goals as goal

pub reverse_sides-requires-clause-sides : goal.reverse_sides-requires-clause-sides
reverse_sides-requires-clause-sides c = (rule_faultless c.args.text.now c.args.sig.now c.args.count c.args.decl.now (sym c.requires.forward)).reverse

pub returns-then-count-ge1999-clause-fault : goal.returns-then-count-ge1999-clause-fault
returns-then-count-ge1999-clause-fault c different =
    none_first c.args.text.now (sides_causes (turned (pairs_of c.args.text.now c.args.sig.now c.args.decl.now.form))) (record { fault = TooManyRules; first = if_past (nat_le 2000 (c.args.count + 1)) c.args.decl.now.start.start } ∷ [])
    (tried_none c.args.text.now (turned (pairs_of c.args.text.now c.args.sig.now c.args.decl.now.form)) c.in_ok-tried.tried c.in_ok-tried.ensures.tried)
    ∙ sym (stopped c.args.text.now TooManyRules _ [] (Some c.args.decl.now.start.start) c.args.decl.now.start.start _ refl (past-most 2000 (c.args.count + 1) c.args.decl.now.start.start (omega (arith, c.if-count-ge1999.true))) (ap TooManyRules c.place.ensures))

pub rule-requires-clause-few_left : goal.rule-requires-clause-few_left
rule-requires-clause-few_left c =
    let past = (rule_faultless c.args.text.now c.args.sig.now c.args.count c.args.decl.now (sym c.requires.forward)).past in
    subst (λ (x : SidesParts). length x.left ≤ 12) (sym c.in_ok-tried.ensures.tried.sides) (few-reverse c.args.text.now c.args.sig.now c.args.decl.now.form past).0

pub rule-requires-clause-few_right : goal.rule-requires-clause-few_right
rule-requires-clause-few_right c =
    let past = (rule_faultless c.args.text.now c.args.sig.now c.args.count c.args.decl.now (sym c.requires.forward)).past in
    subst (λ (x : SidesParts). length x.right ≤ 12) (sym c.in_ok-tried.ensures.tried.sides) (few-reverse c.args.text.now c.args.sig.now c.args.decl.now.form past).1

pub returns-clause-faultless : goal.returns-clause-faultless
returns-clause-faultless c =
    none_first c.args.text.now (sides_causes (turned (pairs_of c.args.text.now c.args.sig.now c.args.decl.now.form))) (record { fault = TooManyRules; first = if_past (nat_le 2000 (c.args.count + 1)) c.args.decl.now.start.start } ∷ [])
    (tried_none c.args.text.now (turned (pairs_of c.args.text.now c.args.sig.now c.args.decl.now.form)) c.in_ok-tried.tried c.in_ok-tried.ensures.tried)
    ∙ sym (passed c.args.text.now TooManyRules _ [] None _ refl (within-most 2000 (c.args.count + 1) c.args.decl.now.start.start (omega (arith, c.if-count-ge1999.false))) (no_cause c.args.text.now))
