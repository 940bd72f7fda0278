use Rattle.std.proofs.Common.{◌≤◌, List, length, map, sym, ap, ◌∙◌, subst, arith}
use Rattle.kasa_compile.specs.declared.said.AgentSaid.{AgentSaid}
use Rattle.kasa_compile.specs.declared.resolved.Side.TheVariants.{Left}
use Rattle.kasa_compile.specs.Said.{agent_on}
use Rattle.kasa_compile.specs.Valid.{AreSaid, AreJoined}
use Rattle.kasa_compile.specs.Complex.{complex_of}
use Rattle.kasa_compile.proofs.ComplexRead.{length-complex}
use Rattle.kasa_compile.proofs.FaultlessLemmas.{init_faultless}
use Rattle.kasa_compile.proofs.compile.compile_init.Goals as goal

pub complex-requires-clause-said : goal.complex-requires-clause-said
complex-requires-clause-said c =
    let are = c.as_slice-2.ensures.value ∙ c.in_ok-agents.ensures ∙ ap (map (agent_on Left c.args.text.now c.args.sig.now)) c.as_slice.ensures in
    subst (λ (xs : List AgentSaid). AreSaid c.args.sig.now xs) (sym are) (init_faultless c.args.text.now c.args.sig.now c.args.count c.args.init.now (sym c.in_default.is ∙ c.in_ok-fault.ensures)).said

pub complex-requires-clause-joined : goal.complex-requires-clause-joined
complex-requires-clause-joined c =
    let are = c.as_slice-2.ensures.value ∙ c.in_ok-agents.ensures ∙ ap (map (agent_on Left c.args.text.now c.args.sig.now)) c.as_slice.ensures in
    subst (λ (xs : List AgentSaid). AreJoined xs) (sym are) (init_faultless c.args.text.now c.args.sig.now c.args.count c.args.init.now (sym c.in_default.is ∙ c.in_ok-fault.ensures)).joined

pub complex-requires-clause-few : goal.complex-requires-clause-few
complex-requires-clause-few c =
    let are = c.as_slice-2.ensures.value ∙ c.in_ok-agents.ensures ∙ ap (map (agent_on Left c.args.text.now c.args.sig.now)) c.as_slice.ensures in
    subst (λ (xs : List AgentSaid). length xs ≤ 200) (sym are) (init_faultless c.args.text.now c.args.sig.now c.args.count c.args.init.now (sym c.in_default.is ∙ c.in_ok-fault.ensures)).few

pub returns-clause-complex : goal.returns-clause-complex
returns-clause-complex c =
    let are = c.as_slice-2.ensures.value ∙ c.in_ok-agents.ensures ∙ ap (map (agent_on Left c.args.text.now c.args.sig.now)) c.as_slice.ensures in
    c.in_ok-complex.ensures.is ∙ ap (complex_of c.args.sig.now) are

pub returns-clause-small : goal.returns-clause-small
returns-clause-small c =
    let are = c.as_slice-2.ensures.value ∙ c.in_ok-agents.ensures ∙ ap (map (agent_on Left c.args.text.now c.args.sig.now)) c.as_slice.ensures in
    let few = (init_faultless c.args.text.now c.args.sig.now c.args.count c.args.init.now (sym c.in_default.is ∙ c.in_ok-fault.ensures)).few in
    let cells = ap length c.in_ok-complex.ensures.is ∙ length-complex c.args.sig.now _ ∙ ap length are in
    record { over = c.in_ok-complex.ensures.over; few = omega (arith, few, cells) }
