use Rattle.kasa_compile.specs.Names.{unknown_states}
use Rattle.kasa_compile.proofs.names.unknown_state_of.Goals as goal

pub returns : goal.returns
unfolding unknown_states
returns c = rw (c.as_slice.ensures, c.type_number-number.ensures) at c.unknown_state_among.ensures
