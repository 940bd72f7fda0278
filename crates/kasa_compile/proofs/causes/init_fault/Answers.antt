use Rattle.std.proofs.Common.{◌≡◌, List, ◌++◌, [], ◌∷◌, Some, None, refl, sym, ◌∙◌, ap, subst, nat_le}
use Rattle.kasa_syntax.specs.declared.agents.AgentText.{AgentText}
use Rattle.kasa_compile.specs.declared.fault.CompileFault.TheVariants.{TooManyInits}
use Rattle.kasa_compile.specs.Causes.{first_of, if_past, name_causes, complex_causes}
use Rattle.kasa_compile.proofs.CauseLemmas.{passed, stopped, no_cause, none_before, some_before, past-most, within-most}
use Rattle.kasa_compile.proofs.causes.init_fault.Goals as goal

pub returns-then-is_some : goal.returns-then-is_some
returns-then-is_some c =
    some_before c.args.text.now (name_causes c.args.text.now c.args.sig.now c.args.init.now.agents) (complex_causes c.args.init.now.agents ++ record { fault = TooManyInits; first = if_past (nat_le 1000 c.args.count) c.args.init.now.start.start } ∷ [])
    c.name_fault_of_init-names.result (subst (λ (agents : List AgentText). c.name_fault_of_init-names.result ≡ first_of c.args.text.now (name_causes c.args.text.now c.args.sig.now agents)) c.as_slice.ensures c.name_fault_of_init-names.ensures) (sym c.is_some.ensures ∙ c.if-is_some.true)

pub returns-then-is_some-2 : goal.returns-then-is_some-2
returns-then-is_some-2 c =
    none_before c.args.text.now (name_causes c.args.text.now c.args.sig.now c.args.init.now.agents) (complex_causes c.args.init.now.agents ++ record { fault = TooManyInits; first = if_past (nat_le 1000 c.args.count) c.args.init.now.start.start } ∷ [])
    c.name_fault_of_init-names.result _ (subst (λ (agents : List AgentText). c.name_fault_of_init-names.result ≡ first_of c.args.text.now (name_causes c.args.text.now c.args.sig.now agents)) c.as_slice.ensures c.name_fault_of_init-names.ensures) (sym c.is_some.ensures ∙ c.if-is_some.false)
    (some_before c.args.text.now (complex_causes c.args.init.now.agents) (record { fault = TooManyInits; first = if_past (nat_le 1000 c.args.count) c.args.init.now.start.start } ∷ [])
    c.in_ok-others.others (subst (λ (agents : List AgentText). c.in_ok-others.others ≡ first_of c.args.text.now (complex_causes agents)) c.as_slice-2.ensures c.in_ok-others.ensures) (sym c.is_some-2.ensures ∙ c.if-is_some-2.true))

pub returns-then-count-ge1000 : goal.returns-then-count-ge1000
returns-then-count-ge1000 c =
    none_before c.args.text.now (name_causes c.args.text.now c.args.sig.now c.args.init.now.agents) (complex_causes c.args.init.now.agents ++ record { fault = TooManyInits; first = if_past (nat_le 1000 c.args.count) c.args.init.now.start.start } ∷ [])
    c.name_fault_of_init-names.result _ (subst (λ (agents : List AgentText). c.name_fault_of_init-names.result ≡ first_of c.args.text.now (name_causes c.args.text.now c.args.sig.now agents)) c.as_slice.ensures c.name_fault_of_init-names.ensures) (sym c.is_some.ensures ∙ c.if-is_some.false)
    (none_before c.args.text.now (complex_causes c.args.init.now.agents) (record { fault = TooManyInits; first = if_past (nat_le 1000 c.args.count) c.args.init.now.start.start } ∷ [])
    c.in_ok-others.others _ (subst (λ (agents : List AgentText). c.in_ok-others.others ≡ first_of c.args.text.now (complex_causes agents)) c.as_slice-2.ensures c.in_ok-others.ensures) (sym c.is_some-2.ensures ∙ c.if-is_some-2.false)
    (stopped c.args.text.now TooManyInits _ [] (Some c.args.init.now.start.start) c.args.init.now.start.start _ refl (past-most 1000 c.args.count c.args.init.now.start.start c.if-count-ge1000.true) (ap TooManyInits c.place.ensures)))

pub returns : goal.returns
returns c =
    none_before c.args.text.now (name_causes c.args.text.now c.args.sig.now c.args.init.now.agents) (complex_causes c.args.init.now.agents ++ record { fault = TooManyInits; first = if_past (nat_le 1000 c.args.count) c.args.init.now.start.start } ∷ [])
    c.name_fault_of_init-names.result _ (subst (λ (agents : List AgentText). c.name_fault_of_init-names.result ≡ first_of c.args.text.now (name_causes c.args.text.now c.args.sig.now agents)) c.as_slice.ensures c.name_fault_of_init-names.ensures) (sym c.is_some.ensures ∙ c.if-is_some.false)
    (none_before c.args.text.now (complex_causes c.args.init.now.agents) (record { fault = TooManyInits; first = if_past (nat_le 1000 c.args.count) c.args.init.now.start.start } ∷ [])
    c.in_ok-others.others _ (subst (λ (agents : List AgentText). c.in_ok-others.others ≡ first_of c.args.text.now (complex_causes agents)) c.as_slice-2.ensures c.in_ok-others.ensures) (sym c.is_some-2.ensures ∙ c.if-is_some-2.false)
    (passed c.args.text.now TooManyInits _ [] None _ refl (within-most 1000 c.args.count c.args.init.now.start.start c.if-count-ge1000.false) (no_cause c.args.text.now)))
