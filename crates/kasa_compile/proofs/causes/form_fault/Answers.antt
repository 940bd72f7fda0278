use Rattle.std.proofs.Common.{sym, ◌∙◌}
use Rattle.kasa_compile.specs.Causes.{agents_of_form, name_causes, form_causes}
use Rattle.kasa_compile.proofs.CauseLemmas.{none_before_result, some_before}
use Rattle.kasa_compile.proofs.causes.form_fault.Goals as goal

pub returns-then-is_some : goal.returns-then-is_some
returns-then-is_some c =
    some_before c.args.text.now (name_causes c.args.text.now c.args.sig.now (agents_of_form c.args.form.now)) (form_causes c.args.form.now c.args.pairs.now)
    c.name_fault_of_rule-names.result c.name_fault_of_rule-names.ensures (sym c.is_some.ensures ∙ c.if-is_some.true)

pub returns : goal.returns
returns c =
    none_before_result c.args.text.now (name_causes c.args.text.now c.args.sig.now (agents_of_form c.args.form.now)) (form_causes c.args.form.now c.args.pairs.now)
    c.name_fault_of_rule-names.result c.other_form_fault.result c.name_fault_of_rule-names.ensures (sym c.is_some.ensures ∙ c.if-is_some.false) c.other_form_fault.ensures
