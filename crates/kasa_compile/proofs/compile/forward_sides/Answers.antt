use Rattle.std.proofs.Common.{◌≡◌, ◌≢◌, List, ◌++◌, Some, IfOk, IfErr, sym, ◌∙◌, subst}
use Rattle.kasa_compile.specs.declared.said.Pair.{Pair}
use Rattle.kasa_compile.specs.declared.fault.CompileFault.TheVariants.{NoMemory as no_memory}
use Rattle.kasa_compile.specs.Said.{pairs_of}
use Rattle.kasa_compile.specs.Sides.{sides_of}
use Rattle.kasa_compile.specs.Valid.{AreSides}
use Rattle.kasa_compile.specs.Causes.{first_of, agents_of_form, name_causes, form_causes, sides_causes, limit_causes}
use Rattle.kasa_compile.specs.Compiling.{AreTried}
use Rattle.kasa_compile.proofs.CauseLemmas.{some_first}
use Rattle.kasa_compile.proofs.FaultlessLemmas.{forward_fault, tried_after, sides_valid}
use Rattle.kasa_compile.proofs.compile.forward_sides.Goals as goal

pub returns-in-Some-clause-fault : goal.returns-in-Some-clause-fault
returns-in-Some-clause-fault c different count =
    let shown = subst (λ (ps : List Pair). c.in_ok-fault.field-0 ≡ first_of c.args.text.now (name_causes c.args.text.now c.args.sig.now (agents_of_form c.args.decl.now.form) ++ form_causes c.args.decl.now.form ps)) (c.as_slice.ensures.value ∙ c.in_ok-pairs.ensures) c.in_ok-fault.ensures in
    sym (some_first c.args.text.now (name_causes c.args.text.now c.args.sig.now (agents_of_form c.args.decl.now.form) ++ form_causes c.args.decl.now.form (pairs_of c.args.text.now c.args.sig.now c.args.decl.now.form)) (sides_causes (pairs_of c.args.text.now c.args.sig.now c.args.decl.now.form) ++ limit_causes c.args.decl.now.form count c.args.decl.now.start.start) c.in-Some.fault (sym c.in-Some.is ∙ shown))

pub try_sides-requires-clause-known : goal.try_sides-requires-clause-known
try_sides-requires-clause-known c =
    let shown = subst (λ (ps : List Pair). c.in_ok-fault.field-0 ≡ first_of c.args.text.now (name_causes c.args.text.now c.args.sig.now (agents_of_form c.args.decl.now.form) ++ form_causes c.args.decl.now.form ps)) (c.as_slice.ensures.value ∙ c.in_ok-pairs.ensures) c.in_ok-fault.ensures in
    (c.args.sig.now, subst (λ (ps : List Pair). AreSides c.args.sig.now (sides_of ps)) (sym c.in_ok-pairs.ensures) (sides_valid c.args.text.now c.args.sig.now c.args.decl.now.form (sym c.in_default.is ∙ shown)).0)

pub returns-clause-sides : goal.returns-clause-sides
returns-clause-sides c =
    let shown = subst (λ (ps : List Pair). c.in_ok-fault.field-0 ≡ first_of c.args.text.now (name_causes c.args.text.now c.args.sig.now (agents_of_form c.args.decl.now.form) ++ form_causes c.args.decl.now.form ps)) (c.as_slice.ensures.value ∙ c.in_ok-pairs.ensures) c.in_ok-fault.ensures in
    c.try_sides.ensures.sides c.args.sig.now (subst (λ (ps : List Pair). AreSides c.args.sig.now (sides_of ps)) (sym c.in_ok-pairs.ensures) (sides_valid c.args.text.now c.args.sig.now c.args.decl.now.form (sym c.in_default.is ∙ shown)).0)

pub returns-clause-faultless : goal.returns-clause-faultless
returns-clause-faultless c =
    let shown = subst (λ (ps : List Pair). c.in_ok-fault.field-0 ≡ first_of c.args.text.now (name_causes c.args.text.now c.args.sig.now (agents_of_form c.args.decl.now.form) ++ form_causes c.args.decl.now.form ps)) (c.as_slice.ensures.value ∙ c.in_ok-pairs.ensures) c.in_ok-fault.ensures in
    tried_after c.args.text.now (name_causes c.args.text.now c.args.sig.now (agents_of_form c.args.decl.now.form) ++ form_causes c.args.decl.now.form (pairs_of c.args.text.now c.args.sig.now c.args.decl.now.form)) (pairs_of c.args.text.now c.args.sig.now c.args.decl.now.form) c.try_sides.result (sym c.in_default.is ∙ shown)
    (subst (λ (ps : List Pair). IfOk c.try_sides.result (λ t. AreTried ps t)) c.in_ok-pairs.ensures c.try_sides.ensures.tried)

pub returns-clause-fault : goal.returns-clause-fault
returns-clause-fault c =
    let shown = subst (λ (ps : List Pair). c.in_ok-fault.field-0 ≡ first_of c.args.text.now (name_causes c.args.text.now c.args.sig.now (agents_of_form c.args.decl.now.form) ++ form_causes c.args.decl.now.form ps)) (c.as_slice.ensures.value ∙ c.in_ok-pairs.ensures) c.in_ok-fault.ensures in
    forward_fault c.args.text.now c.args.sig.now c.args.decl.now c.try_sides.result (λ f. f ≢ no_memory) (sym c.in_default.is ∙ shown)
    (subst (λ (ps : List Pair). IfErr c.try_sides.result (λ f. f ≢ no_memory → first_of c.args.text.now (sides_causes ps) ≡ Some f)) c.in_ok-pairs.ensures c.try_sides.ensures.fault)
