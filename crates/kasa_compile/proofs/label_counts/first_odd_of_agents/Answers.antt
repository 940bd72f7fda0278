use Rattle.std.proofs.Common.{◌≡◌, ◌∙◌, IfOk, subst}
use Rattle.std.specs.Prelude.{slice_get}
use Rattle.std.proofs.lemmas.List.{take_all}
use Rattle.kasa_compile.specs.Labels.{labels_on, odd_labels}
use Rattle.kasa_compile.proofs.label_counts.first_odd_of_agents.Goals as goal

pub returns : goal.returns
unfolding labels_on
returns c =
    let all = rw (take_all c.loop-agent.agent-index c.args.agents.now c.loop-agent-test.false) at c.loop-agent.invariant in
    subst (λ labels. IfOk c.first_odd.result (λ first. first ≡ slice_get (odd_labels labels) 0)) (c.as_slice-2.ensures.value ∙ all) c.first_odd.ensures
