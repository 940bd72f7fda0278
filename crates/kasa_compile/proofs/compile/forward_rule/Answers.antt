use Rattle.std.proofs.Common.{◌≤◌, length, sym, ◌∙◌, subst}
use Rattle.std.proofs.lemmas.Result.{err_from_is_err_and}
use Rattle.kasa_compile.specs.Sides.{SidesParts}
use Rattle.kasa_compile.specs.Causes.{forward_causes, limit_causes}
use Rattle.kasa_compile.proofs.CauseLemmas.{none_first}
use Rattle.kasa_compile.proofs.FaultlessLemmas.{none_at}
use Rattle.kasa_compile.proofs.ValidLemmas.{few-forward}
use Rattle.kasa_compile.proofs.compile.forward_rule.Goals as goal

pub returns-in_err-tried-clause-fault : goal.returns-in_err-tried-clause-fault
returns-in_err-tried-clause-fault c =
    let p = err_from_is_err_and c.from_residual.result c.from_residual.ensures.1 in
    rw (p.1, p.2) (λ known. c.in_err-tried.ensures.fault known c.args.count)

pub returns-in-Some-clause-fault : goal.returns-in-Some-clause-fault
returns-in-Some-clause-fault c different =
    none_first c.args.text.now (forward_causes c.args.text.now c.args.sig.now c.args.decl.now.form) (limit_causes c.args.decl.now.form c.args.count c.args.decl.now.start.start) c.in_ok-tried.ensures.faultless
    ∙ sym c.limit_fault.ensures ∙ c.in-Some.is

pub rule-requires-clause-few_left : goal.rule-requires-clause-few_left
rule-requires-clause-few_left c =
    let past = (none_at c.args.text.now (limit_causes c.args.decl.now.form c.args.count c.args.decl.now.start.start) (sym c.in_default.is ∙ c.limit_fault.ensures)).0 in
    subst (λ (x : SidesParts). length x.left ≤ 12) (sym c.in_ok-tried.ensures.tried.sides) (few-forward c.args.text.now c.args.sig.now c.args.decl.now.form past).0

pub rule-requires-clause-few_right : goal.rule-requires-clause-few_right
rule-requires-clause-few_right c =
    let past = (none_at c.args.text.now (limit_causes c.args.decl.now.form c.args.count c.args.decl.now.start.start) (sym c.in_default.is ∙ c.limit_fault.ensures)).0 in
    subst (λ (x : SidesParts). length x.right ≤ 12) (sym c.in_ok-tried.ensures.tried.sides) (few-forward c.args.text.now c.args.sig.now c.args.decl.now.form past).1

pub returns-clause-faultless : goal.returns-clause-faultless
returns-clause-faultless c =
    none_first c.args.text.now (forward_causes c.args.text.now c.args.sig.now c.args.decl.now.form) (limit_causes c.args.decl.now.form c.args.count c.args.decl.now.start.start) c.in_ok-tried.ensures.faultless
    ∙ sym c.limit_fault.ensures ∙ c.in_default.is
