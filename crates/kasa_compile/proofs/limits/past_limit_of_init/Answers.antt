use Rattle.std.proofs.Common.{◌≤◌, length, refl, sym, ap, arith}
use Rattle.std.specs.Prelude.{option_map}
use Rattle.std.proofs.lemmas.Option.{slice_get_past, slice_get_read}
use Rattle.std.proofs.lemmas.Bool.{ltb-true}
use Rattle.kasa_syntax.specs.declared.agents.AgentText.{AgentText}
use Rattle.kasa_compile.proofs.limits.past_limit_of_init.Goals as goal

pub returns-in-None : goal.returns-in-None
returns-in-None c =
    let past : length c.args.agents.now ≤ 200 = let told = c.in-None.ensures.lookup.3 in omega arith in
    sym (ap (option_map (λ (a : AgentText). a.name.start)) (slice_get_past c.args.agents.now 200 past))

pub returns-in-Some : goal.returns-in-Some
returns-in-Some c = sym (ap (option_map (λ (a : AgentText). a.name.start)) (slice_get_read c.args.agents.now _ 200 c.in-Some.agent.now refl (ltb-true _ _ (sym c.in-Some.ensures.lookup.0)) c.in-Some.ensures.lookup.1))
