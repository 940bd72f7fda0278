use Rattle.std.proofs.Common.{None, Some}
use Rattle.kasa_graph.proofs.NameLemmas.{find_key}
use Rattle.kasa_graph.proofs.signature.Signature.find_state.Goals as goal

pub returns-in_err-number : goal.returns-in_err-number
returns-in_err-number c =
    rw (c.from_residual-in_err-number.ensures, c.in_ok-states_by_name.ensures.states)
    (find_key c.args.name.now c.in_ok-states_by_name.field-0.now.keys None c.in_err-number.ensures.index)

pub returns : goal.returns
returns c =
    rw c.in_ok-states_by_name.ensures.states
    (find_key c.args.name.now c.in_ok-states_by_name.field-0.now.keys (Some c.in_ok-number.number) c.in_ok-number.ensures.index)
